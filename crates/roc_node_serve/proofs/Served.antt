-- How serving ends.
use Rattle.std.proofs.Common.{◌≡◌, inl, inr, ℕ, Bool, false, List, [], ◌∷◌, refl, sym, ◌∙◌, ap, subst, arith, Option, Some, None}
use Rattle.roc_base.specs.declared.node.Shard.{Shard}
use Rattle.roc_book.specs.Call.{BookView}
use Rattle.roc_disk.specs.declared.disk.Disk.{Ghosts as DiskOf}
use Rattle.roc_disk.proofs.Moments.{weaker}
use Rattle.roc_io.specs.declared.link.Addr.{Addr}
use Rattle.roc_io.specs.Link.{Reception}
use Rattle.roc_io.specs.Observed.{Adds, AddsFront}
use Rattle.roc_io.proofs.Told.{Adds-trans, AddsThenFront-behind}
use Rattle.roc_io.specs.Call.{LinkView, NodeCall}
use Rattle.roc_kept.specs.declared.kept.KeptServer.{KeptServer}
use Rattle.roc_kept.specs.Kept.{Recovers}
use Rattle.roc_node.specs.Moves.{Moves}
use Rattle.roc_node.proofs.Moving.{Moves-behind}
use Rattle.roc_node.specs.NodeEvent.{NodeEvent, NodeSetting}
use Rattle.roc_node.specs.NodeLine.{node_lines_text, end_lines}
use Rattle.roc_node_serve.specs.declared.server_node.ServerNode.{ServerNode}
use Rattle.roc_node_serve.specs.declared.ends.ServeEnd.{ServeEnd}
use Rattle.roc_node_serve.specs.declared.ends.ServeEnd.TheVariants as end
use Rattle.roc_node_serve.specs.declared.server_turns.RunEnd.{RunEnd}
use Rattle.roc_node_serve.specs.declared.server_turns.RunEnd.TheVariants as run
use Rattle.roc_node_serve.specs.Keeping.{RecoversNode}
use Rattle.roc_node_serve.specs.ServerRun.{ServerNodeState, begun}
use Rattle.roc_node_serve.specs.ServeEnd.{Reached, behind, filled_at, amid, DoesNothing, HasBound, HasGreeted, RunsServer}
use Rattle.roc_node_serve.specs.ServeEnd.{unbound, unlogged_node, unserved, cut_off, wanted, filled, broken, unlogged, untold, done}
use Rattle.roc_node_serve.specs.ServeEnd.{first_text}
use Rattle.roc_node_serve.specs.Inner.JournalTurn.{CallsDisk, LeavesJournal}
use Rattle.roc_node_serve.specs.Inner.LogTurn.{TookSo}
use Rattle.roc_node_serve.specs.Inner.ServerTurn.{node_of, RunsTurns, ComesOfTurns, ComesOfServing, ClosesServe, are_over, are_wanted, are_cut_off, are_filled, are_broken, are_unlogged}
use Rattle.roc_node_serve.proofs.Journals.{OnlyNow, kept_recovers, still_leaves}

abbrev unwrap : Option Addr → Addr → Addr
unwrap None d = d
unwrap (Some a) d = a

-- the address that was bound is the shard's
own_bound : (at : Option Addr) (own found : Addr) (old new : Option (List Addr)) → at ≡ Some own → at ≡ Some found → Adds old new (found ∷ []) → Adds old new (own ∷ [])
own_bound at own found old new p q h = subst (λ a. Adds old new (a ∷ [])) (ap (λ o. unwrap o own) (sym q ∙ p)) h

-- the disk was not called
pub calls_nothing : {D : Type 0} (disk : DiskOf D) (now : D) (start : KeptServer) → CallsDisk disk now now start false false
calls_nothing disk now start = record { cause = refl; told = λ tells. tells; unkept = λ none. (refl, refl) }

-- ---- what a call leaves of the journal that came to a node and no further

module _ {D : Type 0} (disk : DiskOf D) where
  leaves_first : OnlyNow disk → (now : D) (S : NodeSetting) (first : ServerNodeState) (start : KeptServer)
      → ((image : List ℕ) → Recovers S.plan S.header.tag start.server.state.shard image start.server.state start.server.viewing
      → RecoversNode S.plan S.header.tag start.server.state.shard first image)
      → LeavesJournal disk now now S first start.server.state.shard start (behind [] first)
  leaves_first only now S first start is = record {
    leaves = λ tells name kept image left. is image (kept_recovers disk now S.plan name S.header.tag _ _ start.keeper kept image left);
    any_moment = λ tells name kept.
        still_leaves disk only now S.plan name S.header.tag _ _ _ _ tells kept (λ image left. record { front = []; rest = []; is = refl; node = first; run = begun; recovers = is image left });
  }

  -- and of one that wanted memory for its last lines
  leaves_last : (old new : D) (S : NodeSetting) (first : ServerNodeState) (shard : Shard) (start : KeptServer) (events : List NodeEvent) (node : ServerNodeState)
      → LeavesJournal disk old new S first shard start (behind events node)
      → LeavesJournal disk old new S first shard start (amid events node [])
  leaves_last old new S first shard start events node l = record {
    leaves = λ tells name kept image left. inl (l.leaves tells name kept image left);
    any_moment = λ tells name kept. weaker disk name old new _ _ (λ image left. inl left) (l.any_moment tells name kept);
  }

-- ---- before the first turn

module _ {D : Type 0} (disk : DiskOf D) (only : OnlyNow disk) (now : D) (S : NodeSetting) (first : ServerNodeState) (shard : Shard) (own : Addr) (turns : ℕ) (counts : Bool) (start : KeptServer)
    (call : NodeCall) (Logs : Reached → ServeEnd → Type 0)
    (is : (image : List ℕ) → Recovers S.plan S.header.tag start.server.state.shard image start.server.state start.server.viewing
    → RecoversNode S.plan S.header.tag start.server.state.shard first image) where
  pub serves_wanting : DoesNothing call → Logs (behind [] first) end.NoMemory → ComesOfServing disk now now S first shard own turns counts start call Logs end.NoMemory
  serves_wanting nothing logs =
      record { reached = behind [] first; serves = unbound end.NoMemory (inr refl) nothing; accepts = refl; leaves = leaves_first disk only now S first start is; logs = logs }

  pub serves_unlogged : DoesNothing call → Logs (behind [] first) end.BookFault → ComesOfServing disk now now S first shard own turns counts start call Logs end.BookFault
  serves_unlogged nothing logs =
      record { reached = behind [] first; serves = unlogged_node nothing; accepts = refl; leaves = leaves_first disk only now S first start is; logs = logs }

  pub serves_unbound : DoesNothing call → Logs (behind [] first) end.LinkFault → ComesOfServing disk now now S first shard own turns counts start call Logs end.LinkFault
  serves_unbound nothing logs =
      record { reached = behind [] first; serves = unbound end.LinkFault (inl refl) nothing; accepts = refl; leaves = leaves_first disk only now S first start is; logs = logs }

  pub serves_unserved : (at : Option Addr) (found : Addr) (piece : List ℕ) → at ≡ Some own → at ≡ Some found → Adds call.link.bound_old call.link.bound_new (found ∷ [])
      → Moves call.link.old call.link.new [] → piece ≡ first_text shard
      → AddsFront call.out.old call.out.new piece → Logs (behind [] first) end.SinkFault → ComesOfServing disk now now S first shard own turns counts start call Logs end.SinkFault
  serves_unserved at found piece of has bound moves text told logs = record {
    reached = behind [] first;
    serves = unserved (own_bound at own found _ _ of has bound) moves (subst (AddsFront call.out.old call.out.new) text told);
    accepts = refl;
    leaves = leaves_first disk only now S first start is;
    logs = logs;
  }

-- ---- behind the first line

module _ {D : Type 0} (disk : DiskOf D) (old new : D) (S : NodeSetting) (first : ServerNodeState) (shard : Shard) (own found : Addr) (turns : ℕ) (counts : Bool) (start : KeptServer)
    (call : NodeCall)
    (at : Option Addr) (is : at ≡ Some own) (has : at ≡ Some found) (mid : LinkView) (greeted : Option (List ℕ)) (piece : List ℕ)
    (bound : Adds call.link.bound_old call.link.bound_new (found ∷ []))
    (binds : Moves call.link.old mid []) (text : piece ≡ first_text shard) (told : Adds call.out.old greeted piece) (counted : ServerNode)
    (kept : Bool) (p q : BookView) where
  has_bound : HasBound own call
  has_bound = own_bound at own found _ _ is has bound

  first_told : Adds call.out.old greeted (first_text shard)
  first_told = subst (Adds call.out.old greeted) text told

  has_greeted : call.out.new ≡ greeted → HasGreeted shard call
  has_greeted same = subst (λ o. Adds call.out.old o (first_text shard)) (sym same) first_told

  runs_behind : (last : List Reception) (events : List NodeEvent) (node : ServerNodeState) → RunsServer S first turns last events node mid call.link.new
      → RunsServer S first turns last events node call.link.old call.link.new
  runs_behind last events node r = record { run = r.run; few = r.few; moves = Moves-behind call.link.old mid call.link.new _ binds r.moves }

  abbrev Leaves : Reached → Type 0
  Leaves reached = LeavesJournal disk old new S first start.server.state.shard start reached

  abbrev Took : Reached → ServeEnd → Type 0
  Took = TookSo kept p q S first

  abbrev Ends : ServeEnd → Type 0
  Ends e = ComesOfServing disk old new S first shard own turns counts start call Took e

  wants : call.out.new ≡ greeted → (reached : Reached) → RunsTurns S first turns counted mid call.link.new run.NoMemory reached → Leaves reached → Took reached end.NoMemory → Ends end.NoMemory
  wants same _ (are_wanted events node last one runs) leaves logs =
      record { reached = amid events node last; serves = wanted events node last has_bound (runs_behind last events node runs) one (has_greeted same); accepts = refl; leaves = leaves; logs = logs }

  cuts : call.out.new ≡ greeted → (reached : Reached) → RunsTurns S first turns counted mid call.link.new run.LinkFault reached → Leaves reached → Took reached end.LinkFault → Ends end.LinkFault
  cuts same _ (are_cut_off events node goes few runs) leaves logs =
      record { reached = behind events node; serves = cut_off events node has_bound (runs_behind _ events node runs) goes few (has_greeted same); accepts = refl; leaves = leaves; logs = logs }

  fills : call.out.new ≡ greeted → (reached : Reached) → RunsTurns S first turns counted mid call.link.new run.Full reached → Leaves reached → Took reached end.Full → Ends end.Full
  fills same _ (are_filled events node packet header msg brings records goes runs) leaves logs = record {
    reached = filled_at events node header msg;
    serves = filled events node packet header msg (record { brings = brings; bound = has_bound; runs = runs_behind _ events node runs; goes = goes; greeted = has_greeted same }) records;
    accepts = refl;
    leaves = leaves;
    logs = logs;
  }

  breaks : call.out.new ≡ greeted → (reached : Reached) → RunsTurns S first turns counted mid call.link.new run.Disk reached → Leaves reached → Took reached end.Disk → Ends end.Disk
  breaks same _ (are_broken events node packet header msg brings goes runs) leaves logs = record {
    reached = amid events node _;
    serves = broken events node packet header msg (record { brings = brings; bound = has_bound; runs = runs_behind _ events node runs; goes = goes; greeted = has_greeted same });
    accepts = refl;
    leaves = leaves;
    logs = logs;
  }

  closes : (stopped : Bool) (e : ServeEnd) → ClosesServe e (node_lines_text (end_lines shard stopped counts counted.counts)) greeted call.out.new → (reached : Reached)
      → RunsTurns S first turns counted mid call.link.new (run.Over stopped) reached → Leaves reached → Took reached end.Done → Ends e
  closes _ end.Done c _ (are_over stopped messages traffic logged events over runs) leaves logs = record {
    reached = behind events (node_of counted messages traffic logged stopped);
    serves = done events (node_of counted messages traffic logged stopped) has_bound (runs_behind [] events _ runs) over (Adds-trans call.out.old greeted call.out.new _ _ first_told c);
    accepts = refl;
    leaves = leaves;
    logs = logs;
  }
  closes _ end.SinkFault c _ (are_over stopped messages traffic logged events over runs) leaves logs = record {
    reached = behind events (node_of counted messages traffic logged stopped);
    serves = untold events (node_of counted messages traffic logged stopped) has_bound (runs_behind [] events _ runs) over (AddsThenFront-behind call.out.old greeted call.out.new _ _ first_told c);
    accepts = refl;
    leaves = leaves;
    logs = logs;
  }
  closes _ end.NoMemory c _ (are_over stopped messages traffic logged events over runs) leaves logs = record {
    reached = amid events (node_of counted messages traffic logged stopped) [];
    serves = wanted events (node_of counted messages traffic logged stopped) [] has_bound (runs_behind [] events _ runs) (omega arith) (has_greeted c);
    accepts = refl;
    leaves = leaves_last disk old new S first start.server.state.shard start events _ leaves;
    logs = logs;
  }
  closes stopped end.LinkFault c reached r leaves logs = absurd c
  closes stopped (end.Journal at) c reached r leaves logs = absurd c
  closes stopped end.Full c reached r leaves logs = absurd c
  closes stopped end.Disk c reached r leaves logs = absurd c
  closes stopped end.BookFault c reached r leaves logs = absurd c

  unlogs : call.out.new ≡ greeted → (reached : Reached) → RunsTurns S first turns counted mid call.link.new run.BookFault reached → Leaves reached → Took reached end.BookFault → Ends end.BookFault
  unlogs same _ (are_unlogged events node last event is goes runs) leaves logs = record {
    reached = amid events node last;
    serves = unlogged events node last event has_bound (runs_behind last events node runs) is goes (has_greeted same);
    accepts = refl;
    leaves = leaves;
    logs = logs;
  }

  -- what the turns leave is what the call does
  abbrev Comes : RunEnd → Type 0
  Comes e = ComesOfTurns disk old new kept S first turns start counted mid call.link.new p q e

  pub serves_wanted : call.out.new ≡ greeted → Comes run.NoMemory → Ends end.NoMemory
  serves_wanted same r = wants same r.reached r.runs r.leaves r.took

  pub serves_cut : call.out.new ≡ greeted → Comes run.LinkFault → Ends end.LinkFault
  serves_cut same r = cuts same r.reached r.runs r.leaves r.took

  pub serves_filled : call.out.new ≡ greeted → Comes run.Full → Ends end.Full
  serves_filled same r = fills same r.reached r.runs r.leaves r.took

  pub serves_broken : call.out.new ≡ greeted → Comes run.Disk → Ends end.Disk
  serves_broken same r = breaks same r.reached r.runs r.leaves r.took

  pub serves_over : (stopped : Bool) (e : ServeEnd) → Comes (run.Over stopped)
      → ClosesServe e (node_lines_text (end_lines shard stopped counts counted.counts)) greeted call.out.new → Ends e
  serves_over stopped e r c = closes stopped e c r.reached r.runs r.leaves r.took

  pub serves_cut_short : call.out.new ≡ greeted → Comes run.BookFault → Ends end.BookFault
  serves_cut_short same r = unlogs same r.reached r.runs r.leaves r.took

-- ---- with what a book took before

-- what the book took so it took so in other words
pub served_logged : {D : Type 0} (disk : DiskOf D) (old new : D) (S : NodeSetting) (first : ServerNodeState) (shard : Shard) (own : Addr) (turns : ℕ) (counts : Bool) (start : KeptServer)
    (call : NodeCall) (e : ServeEnd) (P Q : Reached → ServeEnd → Type 0) → ((reached : Reached) (e : ServeEnd) → P reached e → Q reached e)
    → ComesOfServing disk old new S first shard own turns counts start call P e
    → ComesOfServing disk old new S first shard own turns counts start call Q e
served_logged disk old new S first shard own turns counts start call e P Q also c =
    record { reached = c.reached; serves = c.serves; accepts = c.accepts; leaves = c.leaves; logs = also c.reached e c.logs }
