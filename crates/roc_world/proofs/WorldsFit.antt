-- The world that the code reaches fits, whatever happens, and has as many coordinators
use Rattle.std.proofs.Common.{◌≡◌, ℕ, List, Option, Result, Ok, Err, IfOk, OnOk, length, refl, sym, ap, subst, ◌∙◌}
use Rattle.std.proofs.lemmas.List.{length-set}
use Rattle.roc_base.specs.declared.id.TxnId.{TxnId}
use Rattle.roc_base.specs.declared.node.Node.{Node}
use Rattle.roc_base.specs.declared.node.Node.TheVariants.{Server, Coord}
use Rattle.roc_msg.specs.declared.outbox.Outgoing.{Outgoing}
use Rattle.roc_plan.specs.Groups.{Plan}
use Rattle.roc_coord.specs.declared.handled.SubmitFault.TheVariants as fault
use Rattle.roc_epoch.specs.declared.next.Next.{Next}
use Rattle.roc_law_protocol.specs.declared.event.Kept.{Kept}
use Rattle.roc_grown.specs.declared.handled.GrownFault.{GrownFault}
use Rattle.roc_grown.specs.declared.handled.GrownFault.TheVariants as grown
use Rattle.roc_grown.specs.Server.{GrownStep}
use Rattle.roc_grown.specs.Coord.{GrownCoordState, after_drain, after_grown_message, after_grown_submit}
use Rattle.roc_growth.specs.declared.event.Event.{Event}
use Rattle.roc_growth.specs.declared.event.Event.TheVariants.{Submit, Deliver, Tick, Stop, Drain}
use Rattle.roc_growth.specs.declared.event.Seen.{Seen}
use Rattle.roc_growth.specs.World.{GrownWorld, first_grown_world, mark_delivered}
use Rattle.roc_growth.specs.Happens.{Outcome, Submits, IsReceived, Happens, StopsIn, at_rest, unrecorded, recorded}
use Rattle.roc_growth.specs.Fits.{FitsGrown}
use Rattle.roc_world.specs.Inner.Parts.{Leads}

-- an event adds no coordinator
pub same_count : (plan : Plan) (next : Option Next) (w : GrownWorld) (e : Event) (o : Outcome) → Happens plan next w e o → length o.world.coords ≡ length w.coords
same_count plan next w (Submit n proc args) o (call, s, there, h) = go (after_grown_submit plan next s proc args).state (after_grown_submit plan next s proc args).sends (after_grown_submit plan next s proc args).answer h
  where
    go : (state : GrownCoordState) (outs : List Outgoing) (answer : Result TxnId GrownFault) → Submits w n proc args state outs answer o → length o.world.coords ≡ length w.coords
    go state outs (Ok id) h = ap (λ (o : Outcome). length o.world.coords) h ∙ length-set w.coords n state
    go state outs (Err grown.Draining) h = ap (λ (o : Outcome). length o.world.coords) h
    go state outs (Err (grown.Plain fault.NoProc)) h = ap (λ (o : Outcome). length o.world.coords) h
    go state outs (Err (grown.Plain fault.Spent)) h = ap (λ (o : Outcome). length o.world.coords) h
    go state outs (Err (grown.Plain fault.Busy)) h = ap (λ (o : Outcome). length o.world.coords) h
    go state outs (Err (grown.Plain fault.Args)) h = absurd h
    go state outs (Err (grown.Plain fault.NoMemory)) h = absurd h
same_count plan next w (Deliver k) o (m, some, there, h) = go m.message.to h
  where
    go : (to : Node) → IsReceived plan next (mark_delivered w k) m.file m.message.msg to o → length o.world.coords ≡ length w.coords
    go (Server shard) served = ap (λ (o : Outcome). length o.world.coords) served.is
    go (Coord n) (s, at, e) = ap (λ (o : Outcome). length o.world.coords) e ∙ length-set w.coords n (after_grown_message plan next s m.file m.message.msg).state
same_count plan next w (Tick (Server shard)) o (s, there, e) = ap (λ (o : Outcome). length o.world.coords) e
same_count plan next w (Tick (Coord n)) o (s, there, e) = ap (λ (o : Outcome). length o.world.coords) e
same_count plan next w (Stop shard during) o x = ap (λ (o : Outcome). length o.world.coords) x.is ∙ go during x.before x.step x.stops
  where
    go : (d : Option (ℕ × Kept)) (before : GrownWorld) (r : GrownStep) → StopsIn plan next w shard.0 x.state d before r → length before.coords ≡ length w.coords
    go d before r at_rest = refl
    go d before r (unrecorded k m sent) = refl
    go d before r (recorded k many m g sent handles) = refl
same_count plan next w (Drain n) o (some, s, there, e) = ap (λ (o : Outcome). length o.world.coords) e ∙ length-set w.coords n (after_drain plan s).state

-- of the step that the code takes, from the world `inside`
module _ (plan : Plan) (next : Option Next) (w inside after : GrownWorld) (e : Event) (same : inside ≡ w) where
  pub step_fits : ((o : Outcome) → FitsGrown plan next inside → Happens plan next inside e o → FitsGrown plan next o.world) → {F : Type 0} (result : Result Seen F) → FitsGrown plan next w
      → IfOk result (λ what. Leads plan next inside e what after) → OnOk result (FitsGrown plan next after)
  step_fits kept (Err fault) fits h = tt
  step_fits kept (Ok what) fits (components, decided, ran, h) =
      kept (record { seen = what; components = components; decided = decided; ran = ran; world = after }) (subst (FitsGrown plan next) (sym same) fits) h

  pub step_count : {F : Type 0} (result : Result Seen F) → IfOk result (λ what. Leads plan next inside e what after) → OnOk result (length after.coords ≡ length w.coords)
  step_count (Err fault) h = tt
  step_count (Ok what) (components, decided, ran, h) =
      same_count plan next inside e (record { seen = what; components = components; decided = decided; ran = ran; world = after }) h ∙ ap (λ (w : GrownWorld). length w.coords) same

pub first_fits : (plan : Plan) (next : Option Next) (count : ℕ) (w : GrownWorld) → FitsGrown plan next (first_grown_world plan count) → w ≡ first_grown_world plan count → FitsGrown plan next w
first_fits plan next count w first is = subst (FitsGrown plan next) (sym is) first
