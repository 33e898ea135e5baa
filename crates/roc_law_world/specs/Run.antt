-- Runs of the world: docs/PROTOCOL.md, "World"
use Rattle.std.specs.Prelude.{◌≡◌, ℕ, ◌<◌, ◌≤◌, List, [], ◌∷◌, ◌++◌, Option, Some, None, length, map}
use Rattle.roc_base.specs.declared.node.Node.{Node}
use Rattle.roc_base.specs.declared.node.Node.TheVariants.{Server, Coord}
use Rattle.roc_msg.specs.declared.msg.Envelope.{Envelope}
use Rattle.roc_plan.specs.Groups.{Plan, procedure_of}
use Rattle.roc_law_protocol.specs.declared.event.Event.{Event}
use Rattle.roc_law_protocol.specs.declared.event.Event.TheVariants.{Submit, Deliver, Tick, Stop}
use Rattle.roc_law_protocol.specs.declared.event.Seen.TheVariants as seen
use Rattle.roc_law_protocol.specs.declared.event.Kept.{Kept}
use Rattle.roc_law_protocol.specs.Happens.{IsSentTo}
use Rattle.roc_law_world.specs.World.{World, Beginning, first_beginning, begun_world}
use Rattle.roc_law_world.specs.Happens.{Outcome, undecided, Happens}

-- an event with what came of it; no event, where a choice among no messages did nothing
pub record Stepped : Type 0 where
  pub event : Option Event
  pub outcome : Outcome

-- what comes of an event, or of none
abbrev pub Transition : Plan → World → Option Event → Outcome → Type 0
Transition plan w (Some e) o = Happens plan w e o
Transition plan w None o = o ≡ undecided seen.Done w

-- the steps lead from a beginning to w
pub data IsRunFrom (plan : Plan) (b : Beginning) (coords : ℕ) : List Stepped → World → Type 0 where
  at_beginning : IsRunFrom plan b coords [] (begun_world plan b coords)
  steps_on : {steps : List Stepped} {w : World} (e : Option Event) (o : Outcome) → IsRunFrom plan b coords steps w → Transition plan w e o
      → IsRunFrom plan b coords (steps ++ (record { event = e; outcome = o }) ∷ []) o.world

-- the steps lead from the first world to w
abbrev pub IsRun : Plan → (coords : ℕ) → List Stepped → World → Type 0
IsRun plan coords steps w = IsRunFrom plan (first_beginning plan) coords steps w

-- the node is one of the world's
abbrev pub IsNodeOf : World → Node → Type 0
IsNodeOf w (Server shard) = shard.0 < length w.servers
IsNodeOf w (Coord number) = number < length w.coords

-- the message at which a server stops, if any, was sent to it
abbrev pub IsSentIn : World → (shard : ℕ) → Option (ℕ × Kept) → Type 0
IsSentIn w shard None = Unit {0}
IsSentIn w shard (Some (k, kept)) = (m : Envelope) × IsSentTo w.sent k shard m

-- the event may happen in w: the coordinator and the procedure exist, and the count of arguments fits; or the message was sent; or the node is there
abbrev pub IsEventOf : Plan → World → Event → Type 0
IsEventOf plan w (Submit number proc args) = (number < length w.coords) × (proc < length plan.program.procedures) × (length args ≡ (procedure_of plan proc).arguments)
IsEventOf plan w (Deliver k) = (0 < k) × (k ≤ length w.sent)
IsEventOf plan w (Tick node) = IsNodeOf w node
IsEventOf plan w (Stop shard during) = (shard.0 < length w.servers) × IsSentIn w shard.0 during

-- each event of the list may happen in the world that it meets, to which those before it lead from the beginning
pub record MayHappenFrom (plan : Plan) (b : Beginning) (coords : ℕ) (events : List (Option Event)) : Type 0 where
  pub each :
      (front : List (Option Event)) (e : Event) (behind : List (Option Event)) (steps : List Stepped) (w : World) → events ≡ front ++ Some e ∷ behind
      → IsRunFrom plan b coords steps w → map (λ s. s.event) steps ≡ front → IsEventOf plan w e

-- or from the first world
abbrev pub MayHappen : Plan → (coords : ℕ) → List (Option Event) → Type 0
MayHappen plan coords events = MayHappenFrom plan (first_beginning plan) coords events
