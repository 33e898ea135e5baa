-- An event adds no coordinator
use Rattle.std.proofs.Common.{◌≡◌, ℕ, Option, Some, None, length, refl, ap}
use Rattle.roc_plan.specs.Groups.{Plan}
use Rattle.roc_law_protocol.specs.declared.event.Kept.{Kept}
use Rattle.roc_epoch.specs.declared.next.Next.{Next}
use Rattle.roc_grown.specs.Server.{GrownServerState, GrownStep}
use Rattle.roc_growth.specs.declared.event.Event.{Event}
use Rattle.roc_growth.specs.World.{GrownWorld}
use Rattle.roc_growth.specs.Happens.{Outcome, StopsIn, at_rest, unrecorded, recorded}
use Rattle.roc_growth.specs.Run.{Transition}
use Rattle.roc_world.proofs.WorldsFit.{same_count as event_count}

-- a stop changes none
pub stop_keeps : (plan : Plan) (next : Option Next) (w : GrownWorld) (shard : ℕ) (s : GrownServerState) (during : Option (ℕ × Kept)) (before : GrownWorld) (r : GrownStep)
    → StopsIn plan next w shard s during before r → before.coords ≡ w.coords
stop_keeps plan next w shard s during before r at_rest = refl
stop_keeps plan next w shard s during before r (unrecorded k m sent) = refl
stop_keeps plan next w shard s during before r (recorded k many m whole sent handles) = refl

-- nor does an event, or none
pub same_count : (plan : Plan) (next : Option Next) (w : GrownWorld) (e : Option Event) (o : Outcome) → Transition plan next w e o → length o.world.coords ≡ length w.coords
same_count plan next w None o h = ap (λ (o : Outcome). length o.world.coords) h
same_count plan next w (Some e) o h = event_count plan next w e o h
