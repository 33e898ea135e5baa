-- What comes of a message that takes no memory
use Rattle.roc_base.specs.declared.id.TxnId.{TxnId}
use Rattle.std.proofs.Common.{◌≡◌, List, [], false, refl, sym, append-nil}
use Rattle.std.proofs.lemmas.Bool.{false≢true}
use Rattle.roc_msg.specs.declared.msg.Msg.{Msg}
use Rattle.roc_msg.specs.declared.msg.Msg.TheVariants.{Start, Commit, Fetch, Known, Ended, Settled, Read}
use Rattle.roc_msg.specs.Outbox.{Collected}
use Rattle.roc_plan.specs.Groups.{Plan}
use Rattle.roc_step.specs.declared.handled.Handled.{Handled}
use Rattle.roc_server.specs.Ahead.{needs_room}
use Rattle.roc_server.specs.Inner.AtOnce.{at_once}
use Rattle.roc_step.specs.New.{AreDecided}
use Rattle.roc_server.specs.Inner.Held.{IsServed}
use Rattle.roc_step.specs.State.{ServerState, Viewing}
use Rattle.roc_step.specs.Step.{Findings, AreFindings, after_message, Handles}
use Rattle.roc_step.proofs.TakenNew.{nothing_new}
use Rattle.roc_server.proofs.StartSteps.{nothing_led}

-- it is the step, whatever is found
comes_at_once : (plan : Plan) (s : ServerState) (msg : Msg) (f : Findings) → needs_room msg ≡ false → at_once s ≡ after_message plan s f msg
comes_at_once plan s (Start id proc group args inputs) f e = absurd (false≢true (sym e))
comes_at_once plan s (Commit id edges facts) f e = absurd (false≢true (sym e))
comes_at_once plan s (Fetch id asker) f e = absurd (false≢true (sym e))
comes_at_once plan s (Known id edges) f e = absurd (false≢true (sym e))
comes_at_once plan s (Ended coord mark) f e = absurd (false≢true (sym e))
comes_at_once plan s (Settled id mark) f e = absurd (false≢true (sym e))
comes_at_once plan s (Read id round proc group args) f e = absurd (false≢true (sym e))
comes_at_once plan s msg f e = refl

module _ (plan : Plan) (s : ServerState) (decided : List TxnId) (are : AreDecided s.lists.links decided) (msg : Msg) (kind : needs_room msg ≡ false) where
  abbrev nothing : Findings
  nothing = record { before = decided; reached = []; components = [] }

  found : AreFindings plan s msg nothing
  found = none_found msg kind
    where
      none_found : (m : Msg) → needs_room m ≡ false → AreFindings plan s m nothing
      none_found (Start id proc group args inputs) e = absurd (false≢true (sym e))
      none_found (Commit id edges facts) e = absurd (false≢true (sym e))
      none_found (Fetch id asker) e = absurd (false≢true (sym e))
      none_found (Known id edges) e = absurd (false≢true (sym e))
      none_found (Ended coord mark) e = absurd (false≢true (sym e))
      none_found (Settled id mark) e = absurd (false≢true (sym e))
      none_found (Read id round proc group args) e = absurd (false≢true (sym e))
      none_found m e = record { before = are; reached = nothing_led s.lists.links; components = nothing_new s.lists.links }

  pub handles_at_once : Handles plan s msg (at_once s)
  handles_at_once = record { findings = nothing; found = found; is = comes_at_once plan s msg nothing kind }

  -- nothing comes of it for reads
  pub served_at_once : (v : Viewing) (out : Collected) (answer : Handled) → (at_once s).answer ≡ answer → IsServed plan s v msg answer s v out out
  served_at_once v out answer is = (
    at_once s,
    record { viewing = v; sends = [] },
    handles_at_once,
    record { decided = decided; found = are; is = refl },
    record { answers = is; keeps = refl; views = refl; sends = sym (append-nil out.messages); decides = sym (append-nil out.decided); ran = sym (append-nil out.ran) },
  )
