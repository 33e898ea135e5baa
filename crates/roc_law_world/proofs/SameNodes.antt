-- An event adds no node
use Rattle.std.proofs.Common.{◌≡◌, ◌∙◌, ℕ, List, Some, None, Result, Ok, Err, length, ap}
use Rattle.std.proofs.lemmas.List.{length-set}
use Rattle.std.proofs.lemmas.List.FromFn.{length-map-range_with_len}
use Rattle.roc_base.specs.declared.id.TxnId.{TxnId}
use Rattle.roc_base.specs.declared.node.Node.{Node}
use Rattle.roc_base.specs.declared.node.Node.TheVariants.{Server, Coord}
use Rattle.roc_msg.specs.declared.outbox.Outgoing.{Outgoing}
use Rattle.roc_plan.specs.Groups.{Plan}
use Rattle.roc_coord.specs.declared.handled.SubmitFault.{SubmitFault}
use Rattle.roc_coord.specs.declared.handled.SubmitFault.TheVariants as fault
use Rattle.roc_coord.specs.State.{CoordState}
use Rattle.roc_coord.specs.Step.{after_message}
use Rattle.roc_coord.specs.Submit.{after_submit}
use Rattle.roc_law_protocol.specs.Beginnings as protocol
use Rattle.roc_law_protocol.specs.declared.event.Event.{Event}
use Rattle.roc_law_protocol.specs.declared.event.Event.TheVariants.{Submit, Deliver, Tick, Stop}
use Rattle.roc_law_world.specs.World.{World, Beginning, mark_delivered}
use Rattle.roc_law_world.specs.Happens.{Outcome, Submits, IsReceived, Happens}
use Rattle.roc_law_world.specs.Run.{Stepped, IsRunFrom, at_beginning, steps_on}
use Rattle.roc_law_world.proofs.Stops.{stop_keeps}

-- an event adds no coordinator
pub same_count : (plan : Plan) (w : World) (e : Event) (o : Outcome) → Happens plan w e o → length o.world.coords ≡ length w.coords
same_count plan w (Submit n proc args) o (s, there, h) = go (after_submit plan s proc args).state (after_submit plan s proc args).sends (after_submit plan s proc args).answer h
  where
    go : (state : CoordState) (outs : List Outgoing) (answer : Result TxnId SubmitFault) → Submits w n proc args state outs answer o → length o.world.coords ≡ length w.coords
    go state outs (Ok id) h = ap (λ (o : Outcome). length o.world.coords) h ∙ length-set w.coords n state
    go state outs (Err fault.Spent) h = ap (λ (o : Outcome). length o.world.coords) h
    go state outs (Err fault.Busy) h = ap (λ (o : Outcome). length o.world.coords) h
    go state outs (Err fault.NoProc) h = absurd h
    go state outs (Err fault.Args) h = absurd h
    go state outs (Err fault.NoMemory) h = absurd h
same_count plan w (Deliver k) o (m, some, there, h) = go m.to h
  where
    go : (to : Node) → IsReceived plan (mark_delivered w k) m.msg to o → length o.world.coords ≡ length w.coords
    go (Server shard) served = ap (λ (o : Outcome). length o.world.coords) served.is
    go (Coord n) (s, at, e) = ap (λ (o : Outcome). length o.world.coords) e ∙ length-set w.coords n (after_message plan s m.msg).state
same_count plan w (Tick (Server shard)) o (s, v, there, keeps, e) = ap (λ (o : Outcome). length o.world.coords) e
same_count plan w (Tick (Coord n)) o (s, there, e) = ap (λ (o : Outcome). length o.world.coords) e
same_count plan w (Stop shard during) o x = ap length (stop_keeps plan w shard.0 during o x).1

-- so there are as many as at the beginning
pub run_count : (plan : Plan) (b : Beginning) (coords : ℕ) (steps : List Stepped) (w : World) → IsRunFrom plan b coords steps w → length w.coords ≡ coords
run_count plan b coords _ _ at_beginning = length-map-range_with_len (protocol.begun_coord b.of_transactions) 0 coords
run_count plan b coords _ _ (steps_on {steps = steps} {w = w} None o r h) = ap (λ (o : Outcome). length o.world.coords) h ∙ run_count plan b coords steps w r
run_count plan b coords _ _ (steps_on {steps = steps} {w = w} (Some e) o r h) = same_count plan w e o h ∙ run_count plan b coords steps w r
