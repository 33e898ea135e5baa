-- Runs of a world of two files: docs/PROTOCOL.md, "Growth"
use Rattle.std.specs.Prelude.{◌≡◌, ℕ, ◌<◌, ◌≤◌, List, [], ◌∷◌, ◌++◌, Option, Some, None, length, map}
use Rattle.roc_base.specs.declared.node.Node.{Node}
use Rattle.roc_base.specs.declared.node.Node.TheVariants.{Server, Coord}
use Rattle.roc_plan.specs.Groups.{Plan}
use Rattle.roc_law_protocol.specs.declared.event.Kept.{Kept}
use Rattle.roc_epoch.specs.declared.next.Next.{Next}
use Rattle.roc_epoch.specs.Files.{last_plan}
use Rattle.roc_two_files.specs.Sealed.{Sealed}
use Rattle.roc_growth.specs.declared.event.Event.{Event}
use Rattle.roc_growth.specs.declared.event.Event.TheVariants.{Submit, Deliver, Tick, Stop, Drain}
use Rattle.roc_growth.specs.declared.event.Seen.TheVariants as seen
use Rattle.roc_growth.specs.World.{GrownWorld, first_grown_world}
use Rattle.roc_growth.specs.Happens.{Outcome, undecided, IsCallOf, IsSentTo, IsNext, Happens}

-- an event with what came of it; no event, where a choice among no messages did nothing
pub record Stepped : Type 0 where
  pub event : Option Event
  pub outcome : Outcome

-- what comes of an event, or of none
abbrev pub Transition : Plan → Option Next → GrownWorld → Option Event → Outcome → Type 0
Transition plan next w (Some e) o = Happens plan next w e o
Transition plan next w None o = o ≡ undecided seen.Done w

-- so many coordinators as the next file is for, where there is one
abbrev pub AreCoordsOf : Option Next → (coords : ℕ) → Type 0
AreCoordsOf None coords = Unit {0}
AreCoordsOf (Some next) coords = coords ≡ next.coords

-- the steps lead from the first world to w
pub data IsGrownRun (plan : Plan) (next : Option Next) (coords : ℕ) : List Stepped → GrownWorld → Type 0 where
  at_first : AreCoordsOf next coords → IsGrownRun plan next coords [] (first_grown_world plan coords)
  steps_on : {steps : List Stepped} {w : GrownWorld} (e : Option Event) (o : Outcome) → IsGrownRun plan next coords steps w → Transition plan next w e o
      → IsGrownRun plan next coords (steps ++ (record { event = e; outcome = o }) ∷ []) o.world

-- the node is one of the world's
abbrev pub IsNodeOf : GrownWorld → Node → Type 0
IsNodeOf w (Server shard) = shard.0 < length w.servers
IsNodeOf w (Coord number) = number < length w.coords

-- the message at which a server stops, if any, was sent to it
abbrev pub IsSentIn : GrownWorld → (shard : ℕ) → Option (ℕ × Kept) → Type 0
IsSentIn w shard None = Unit {0}
IsSentIn w shard (Some (k, kept)) = (m : Sealed) × IsSentTo w.sent k shard m

-- the event may happen in w: the coordinator is there and the call is one of the last file; or the message was sent; or the node is there; and one drains
-- only where there is a next file
abbrev pub IsEventOf : Plan → Option Next → GrownWorld → Event → Type 0
IsEventOf plan next w (Submit number proc args) = (number < length w.coords) × IsCallOf (last_plan plan next) proc args
IsEventOf plan next w (Deliver k) = (0 < k) × (k ≤ length w.sent)
IsEventOf plan next w (Tick node) = IsNodeOf w node
IsEventOf plan next w (Stop shard during) = (shard.0 < length w.servers) × IsSentIn w shard.0 during
IsEventOf plan next w (Drain number) = IsNext next × (number < length w.coords)

-- each event of the list may happen in the world that it meets, to which those before it lead from the first
pub record MayHappen (plan : Plan) (next : Option Next) (coords : ℕ) (events : List (Option Event)) : Type 0 where
  pub each :
      (front : List (Option Event)) (e : Event) (behind : List (Option Event)) (steps : List Stepped) (w : GrownWorld) → events ≡ front ++ Some e ∷ behind
      → IsGrownRun plan next coords steps w → map (λ s. s.event) steps ≡ front → IsEventOf plan next w e
