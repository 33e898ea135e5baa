use Rattle.std.proofs.Common.{ℕ, List, [], ◌∷◌, take, refl, sym, subst}
use Rattle.roc_io.specs.Observed.{Adds}
use Rattle.roc_node.proofs.Moving.{Moves-none}
use Rattle.roc_node_serve.proofs.Logs.{took_none}
use Rattle.roc_node_serve.specs.declared.ends.ServeEnd.TheVariants as end
use Rattle.roc_node_serve.specs.Pieces.{silent, greeted, cut_first}
use Rattle.roc_node_serve.proofs.Served.{calls_nothing, serves_unbound, serves_unserved, serves_wanted, serves_cut, serves_filled, serves_broken, serves_cut_short, serves_over}
use Rattle.roc_node_serve.proofs.Writing.{closed_behind}
use Rattle.roc_node_serve.proofs.starting.serve_begun.Goals as goal

pub returns-in-Failed-clause-calls : goal.returns-in-Failed-clause-calls
returns-in-Failed-clause-calls g c = calls_nothing _ _ _

pub returns-in-Failed-clause-serves : goal.returns-in-Failed-clause-serves
returns-in-Failed-clause-serves g c = λ own at messages logged.
    serves_unbound _ (λ now name image tells left. g.met.D.Disk.only_now now name image tells left) _ _ _ _ _ _ _ _ _ _ (λ image left. left)
    (record {
      bound = c.in-Failed.ensures.bound;
      moves = Moves-none _ _ c.in-Failed.ensures.arrivals c.in-Failed.ensures.sent c.in-Failed.ensures.lost c.in-Failed.ensures.events;
      silent = refl;
    }) (took_none _ _ _ _)

pub returns-in-Failed-write-clause-calls : goal.returns-in-Failed-write-clause-calls
returns-in-Failed-write-clause-calls g c = calls_nothing _ _ _

pub returns-in-Failed-write-clause-serves : goal.returns-in-Failed-write-clause-serves
returns-in-Failed-write-clause-serves g c = λ own at messages logged.
    serves_unserved _ (λ now name image tells left. g.met.D.Disk.only_now now name image tells left) _ _ _ _ _ _ _ _ _ _ (λ image left. left)
    _ c.addr.result c.args.first.now at c.addr.ensures c.in-Ok.ensures.bound
    (Moves-none _ _ c.in-Ok.ensures.arrivals c.in-Ok.ensures.sent c.in-Ok.ensures.lost c.in-Ok.ensures.events)
    c.requires.first c.in-Failed-write.ensures.taken (took_none _ _ _ _)

pub returns-in-Over-clause-serves : goal.returns-in-Over-clause-serves
returns-in-Over-clause-serves g c = λ own at messages logged.
    serves_over _ _ _ _ _ _ own c.addr.result _ _ _ _ _ at c.addr.ensures _ (g.S.Sink.taken c.write.new.self) c.args.first.now
    (subst (λ b. Adds (g.L.Link.bound c.args.link.now) b (c.addr.result ∷ [])) (sym c.in-Over.ensures.bound) c.in-Ok.ensures.bound)
    (Moves-none _ _ c.in-Ok.ensures.arrivals c.in-Ok.ensures.sent c.in-Ok.ensures.lost c.in-Ok.ensures.events)
    c.requires.first c.in-Ok-write.ensures.taken
    c.run_turns.new.server_node _ _ _ c.in-Over.stopped c.close.result (c.in-Over.ensures.runs messages logged) c.close.ensures.closes

pub returns-in-NoMemory-clause-serves : goal.returns-in-NoMemory-clause-serves
returns-in-NoMemory-clause-serves g c = λ own at messages logged.
    serves_wanted _ _ _ _ _ _ own c.addr.result _ _ _ _ _ at c.addr.ensures _ (g.S.Sink.taken c.write.new.self) c.args.first.now
    (subst (λ b. Adds (g.L.Link.bound c.args.link.now) b (c.addr.result ∷ [])) (sym c.in-NoMemory.ensures.bound) c.in-Ok.ensures.bound)
    (Moves-none _ _ c.in-Ok.ensures.arrivals c.in-Ok.ensures.sent c.in-Ok.ensures.lost c.in-Ok.ensures.events)
    c.requires.first c.in-Ok-write.ensures.taken
    c.run_turns.new.server_node _ _ _ refl (c.in-NoMemory.ensures.runs messages logged)

pub returns-in-LinkFault-clause-serves : goal.returns-in-LinkFault-clause-serves
returns-in-LinkFault-clause-serves g c = λ own at messages logged.
    serves_cut _ _ _ _ _ _ own c.addr.result _ _ _ _ _ at c.addr.ensures _ (g.S.Sink.taken c.write.new.self) c.args.first.now
    (subst (λ b. Adds (g.L.Link.bound c.args.link.now) b (c.addr.result ∷ [])) (sym c.in-LinkFault.ensures.bound) c.in-Ok.ensures.bound)
    (Moves-none _ _ c.in-Ok.ensures.arrivals c.in-Ok.ensures.sent c.in-Ok.ensures.lost c.in-Ok.ensures.events)
    c.requires.first c.in-Ok-write.ensures.taken
    c.run_turns.new.server_node _ _ _ refl (c.in-LinkFault.ensures.runs messages logged)

pub returns-in-Full-clause-serves : goal.returns-in-Full-clause-serves
returns-in-Full-clause-serves g c = λ own at messages logged.
    serves_filled _ _ _ _ _ _ own c.addr.result _ _ _ _ _ at c.addr.ensures _ (g.S.Sink.taken c.write.new.self) c.args.first.now
    (subst (λ b. Adds (g.L.Link.bound c.args.link.now) b (c.addr.result ∷ [])) (sym c.in-Full.ensures.bound) c.in-Ok.ensures.bound)
    (Moves-none _ _ c.in-Ok.ensures.arrivals c.in-Ok.ensures.sent c.in-Ok.ensures.lost c.in-Ok.ensures.events)
    c.requires.first c.in-Ok-write.ensures.taken
    c.run_turns.new.server_node _ _ _ refl (c.in-Full.ensures.runs messages logged)

pub returns-in-Disk-clause-serves : goal.returns-in-Disk-clause-serves
returns-in-Disk-clause-serves g c = λ own at messages logged.
    serves_broken _ _ _ _ _ _ own c.addr.result _ _ _ _ _ at c.addr.ensures _ (g.S.Sink.taken c.write.new.self) c.args.first.now
    (subst (λ b. Adds (g.L.Link.bound c.args.link.now) b (c.addr.result ∷ [])) (sym c.in-Disk.ensures.bound) c.in-Ok.ensures.bound)
    (Moves-none _ _ c.in-Ok.ensures.arrivals c.in-Ok.ensures.sent c.in-Ok.ensures.lost c.in-Ok.ensures.events)
    c.requires.first c.in-Ok-write.ensures.taken
    c.run_turns.new.server_node _ _ _ refl (c.in-Disk.ensures.runs messages logged)

pub returns-in-BookFault-clause-serves : goal.returns-in-BookFault-clause-serves
returns-in-BookFault-clause-serves g c = λ own at messages logged.
    serves_cut_short _ _ _ _ _ _ own c.addr.result _ _ _ _ _ at c.addr.ensures _ (g.S.Sink.taken c.write.new.self) c.args.first.now
    (subst (λ b. Adds (g.L.Link.bound c.args.link.now) b (c.addr.result ∷ [])) (sym c.in-BookFault.ensures.bound) c.in-Ok.ensures.bound)
    (Moves-none _ _ c.in-Ok.ensures.arrivals c.in-Ok.ensures.sent c.in-Ok.ensures.lost c.in-Ok.ensures.events)
    c.requires.first c.in-Ok-write.ensures.taken
    c.run_turns.new.server_node _ _ _ refl (c.in-BookFault.ensures.runs messages logged)

-- ---- the pieces

pub returns-in-Failed-clause-pieces : goal.returns-in-Failed-clause-pieces
returns-in-Failed-clause-pieces g c = silent end.LinkFault refl refl

pub returns-in-Failed-write-clause-pieces : goal.returns-in-Failed-write-clause-pieces
returns-in-Failed-write-clause-pieces g c =
    let failed = c.in-Failed-write.ensures.pieces in
    cut_first (failed.0, subst (λ (t : List ℕ). Adds (g.S.Sink.pieces c.args.out.now) (g.S.Sink.pieces c.write.new.self) (take failed.0 t ∷ [])) c.requires.first failed.2)

pub returns-in-Over-clause-pieces : goal.returns-in-Over-clause-pieces
returns-in-Over-clause-pieces g c =
    closed_behind c.args.shard c.args.counts c.in-Over.stopped c.run_turns.new.server_node.counts _ _ _ c.close.result
    (subst (λ (t : List ℕ). Adds (g.S.Sink.pieces c.args.out.now) (g.S.Sink.pieces c.write.new.self) (t ∷ [])) c.requires.first c.in-Ok-write.ensures.pieces) c.close.ensures.pieces

pub returns-in-NoMemory-clause-pieces : goal.returns-in-NoMemory-clause-pieces
returns-in-NoMemory-clause-pieces g c =
    greeted end.NoMemory refl (subst (λ (t : List ℕ). Adds (g.S.Sink.pieces c.args.out.now) (g.S.Sink.pieces c.write.new.self) (t ∷ [])) c.requires.first c.in-Ok-write.ensures.pieces)

pub returns-in-LinkFault-clause-pieces : goal.returns-in-LinkFault-clause-pieces
returns-in-LinkFault-clause-pieces g c =
    greeted end.LinkFault refl (subst (λ (t : List ℕ). Adds (g.S.Sink.pieces c.args.out.now) (g.S.Sink.pieces c.write.new.self) (t ∷ [])) c.requires.first c.in-Ok-write.ensures.pieces)

pub returns-in-Full-clause-pieces : goal.returns-in-Full-clause-pieces
returns-in-Full-clause-pieces g c =
    greeted end.Full refl (subst (λ (t : List ℕ). Adds (g.S.Sink.pieces c.args.out.now) (g.S.Sink.pieces c.write.new.self) (t ∷ [])) c.requires.first c.in-Ok-write.ensures.pieces)

pub returns-in-Disk-clause-pieces : goal.returns-in-Disk-clause-pieces
returns-in-Disk-clause-pieces g c =
    greeted end.Disk refl (subst (λ (t : List ℕ). Adds (g.S.Sink.pieces c.args.out.now) (g.S.Sink.pieces c.write.new.self) (t ∷ [])) c.requires.first c.in-Ok-write.ensures.pieces)

pub returns-in-BookFault-clause-pieces : goal.returns-in-BookFault-clause-pieces
returns-in-BookFault-clause-pieces g c =
    greeted end.BookFault refl (subst (λ (t : List ℕ). Adds (g.S.Sink.pieces c.args.out.now) (g.S.Sink.pieces c.write.new.self) (t ∷ [])) c.requires.first c.in-Ok-write.ensures.pieces)
