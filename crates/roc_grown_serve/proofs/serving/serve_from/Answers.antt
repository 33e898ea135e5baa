use Rattle.std.proofs.Common.{ℕ, List, [], ◌∷◌, take, inl, inr, refl, sym, subst, ◌∙◌}
use Rattle.roc_io.specs.Observed.{Adds}
use Rattle.roc_node.proofs.Moving.{Moves-none}
use Rattle.roc_node_serve.specs.declared.ends.ServeEnd.TheVariants as end
use Rattle.roc_node_serve.specs.Pieces.{silent, greeted, cut_first}
use Rattle.roc_node_serve.proofs.Writing.{closed_behind}
use Rattle.roc_grown_serve.specs.ServesGrowing.{unbound}
use Rattle.roc_grown_serve.proofs.Served.{serves_unserved, serves_wanted, serves_cut, serves_over}
use Rattle.roc_grown_serve.proofs.serving.serve_from.Goals as goal

pub returns-in-Err-clause-serves : goal.returns-in-Err-clause-serves
returns-in-Err-clause-serves g c = λ own at. unbound end.NoMemory (inr refl) (record { bound = refl; moves = Moves-none _ _ refl refl refl refl; silent = refl })

pub returns-in-Failed-clause-serves : goal.returns-in-Failed-clause-serves
returns-in-Failed-clause-serves g c = λ own at. let e = c.in-Failed.ensures in
    unbound end.LinkFault (inl refl) (record { bound = e.bound; moves = Moves-none _ _ e.arrivals e.sent e.lost e.events; silent = refl })

pub returns-in-Failed-write-clause-serves : goal.returns-in-Failed-write-clause-serves
returns-in-Failed-write-clause-serves g c = λ own at. let e = c.in-Ok-bind.ensures in
    serves_unserved _ _ _ _ _ _ _ _ c.addr.result c.deref.result.now at c.addr.ensures e.bound (Moves-none _ _ e.arrivals e.sent e.lost e.events)
    (c.deref.ensures.value ∙ c.in-Ok.ensures) c.in-Failed-write.ensures.taken

pub returns-in-Over-clause-serves : goal.returns-in-Over-clause-serves
returns-in-Over-clause-serves g c = λ own at. let e = c.in-Ok-bind.ensures in
    serves_over _ _ _ own c.addr.result _ _ _ _ at c.addr.ensures _ (g.S.Sink.taken c.write.new.self) c.deref.result.now
    (subst (λ b. Adds (g.L.Link.bound c.args.link.now) b (c.addr.result ∷ [])) (sym c.in-Over.ensures.bound) e.bound)
    (Moves-none _ _ e.arrivals e.sent e.lost e.events) (c.deref.ensures.value ∙ c.in-Ok.ensures) c.in-Ok-write.ensures.taken
    c.run_turns.new.server_node c.in-Over.stopped c.close.result c.in-Over.ensures.runs c.close.ensures.closes

pub returns-in-NoMemory-clause-serves : goal.returns-in-NoMemory-clause-serves
returns-in-NoMemory-clause-serves g c = λ own at. let e = c.in-Ok-bind.ensures in
    serves_wanted _ _ _ own c.addr.result _ _ _ _ at c.addr.ensures _ (g.S.Sink.taken c.write.new.self) c.deref.result.now
    (subst (λ b. Adds (g.L.Link.bound c.args.link.now) b (c.addr.result ∷ [])) (sym c.in-NoMemory.ensures.bound) e.bound)
    (Moves-none _ _ e.arrivals e.sent e.lost e.events) (c.deref.ensures.value ∙ c.in-Ok.ensures) c.in-Ok-write.ensures.taken
    c.run_turns.new.server_node refl c.in-NoMemory.ensures.runs

pub returns-clause-serves : goal.returns-clause-serves
returns-clause-serves g c = λ own at. let e = c.in-Ok-bind.ensures in
    serves_cut _ _ _ own c.addr.result _ _ _ _ at c.addr.ensures _ (g.S.Sink.taken c.write.new.self) c.deref.result.now
    (subst (λ b. Adds (g.L.Link.bound c.args.link.now) b (c.addr.result ∷ [])) (sym c.in-LinkFault.ensures.bound) e.bound)
    (Moves-none _ _ e.arrivals e.sent e.lost e.events) (c.deref.ensures.value ∙ c.in-Ok.ensures) c.in-Ok-write.ensures.taken
    c.run_turns.new.server_node refl c.in-LinkFault.ensures.runs

-- ---- the pieces

pub returns-in-Err-clause-pieces : goal.returns-in-Err-clause-pieces
returns-in-Err-clause-pieces g c = silent end.NoMemory refl refl

pub returns-in-Failed-clause-pieces : goal.returns-in-Failed-clause-pieces
returns-in-Failed-clause-pieces g c = silent end.LinkFault refl refl

pub returns-in-Failed-write-clause-pieces : goal.returns-in-Failed-write-clause-pieces
returns-in-Failed-write-clause-pieces g c =
    let failed = c.in-Failed-write.ensures.pieces in
    cut_first (failed.0, subst (λ (t : List ℕ). Adds (g.S.Sink.pieces c.args.out.now) (g.S.Sink.pieces c.write.new.self) (take failed.0 t ∷ [])) (c.deref.ensures.value ∙ c.in-Ok.ensures) failed.2)

pub returns-in-Over-clause-pieces : goal.returns-in-Over-clause-pieces
returns-in-Over-clause-pieces g c =
    closed_behind c.args.shard c.args.counts c.in-Over.stopped c.run_turns.new.server_node.counts _ _ _ c.close.result
    (subst (λ (t : List ℕ). Adds (g.S.Sink.pieces c.args.out.now) (g.S.Sink.pieces c.write.new.self) (t ∷ [])) (c.deref.ensures.value ∙ c.in-Ok.ensures) c.in-Ok-write.ensures.pieces)
    c.close.ensures.pieces

pub returns-in-NoMemory-clause-pieces : goal.returns-in-NoMemory-clause-pieces
returns-in-NoMemory-clause-pieces g c =
    greeted end.NoMemory refl
    (subst (λ (t : List ℕ). Adds (g.S.Sink.pieces c.args.out.now) (g.S.Sink.pieces c.write.new.self) (t ∷ [])) (c.deref.ensures.value ∙ c.in-Ok.ensures) c.in-Ok-write.ensures.pieces)

pub returns-clause-pieces : goal.returns-clause-pieces
returns-clause-pieces g c =
    greeted end.LinkFault refl
    (subst (λ (t : List ℕ). Adds (g.S.Sink.pieces c.args.out.now) (g.S.Sink.pieces c.write.new.self) (t ∷ [])) (c.deref.ensures.value ∙ c.in-Ok.ensures) c.in-Ok-write.ensures.pieces)
