-- Runs of the world in which coordinators do something aside of transactions, between events
use Rattle.std.specs.Prelude.{◌≡◌, ◌⊎◌, ℕ, List, [], ◌∷◌, ◌++◌, Option, Some, None, slice_get}
use Rattle.roc_msg.specs.declared.outbox.Outgoing.{Outgoing}
use Rattle.roc_plan.specs.Groups.{Plan}
use Rattle.roc_coord.specs.State.{CoordState}
use Rattle.roc_law_protocol.specs.declared.event.Event.{Event}
use Rattle.roc_law_protocol.specs.declared.event.Seen.TheVariants as seen
use Rattle.roc_law_protocol.specs.Aside.{Asides}
use Rattle.roc_law_protocol.specs.World.{World, at_coord}
use Rattle.roc_law_protocol.specs.Beginnings.{Beginning, begun_world}
use Rattle.roc_law_protocol.specs.Happens.{Outcome, undecided, Happens}
use Rattle.roc_law_protocol.specs.Run.{Stepped}

-- a coordinator of w does something aside, which nobody sees, and o comes of it
pub record IsAside (plan : Plan) (w : World) (o : Outcome) : Type 0 where
  pub number : ℕ
  pub before : CoordState
  pub there : slice_get w.coords number ≡ Some before
  pub after : CoordState
  pub sends : List Outgoing
  pub does : Asides plan before after sends
  pub is : o ≡ undecided seen.Done (at_coord w number after sends [])

-- what comes of an event; or of none, where nothing happens, or something aside
abbrev pub Moves : Plan → World → Option Event → Outcome → Type 0
Moves plan w (Some e) o = Happens plan w e o
Moves plan w None o = (o ≡ undecided seen.Done w) ⊎ IsAside plan w o

-- the steps lead from a beginning to w
pub data IsRunBeside (plan : Plan) (b : Beginning) (coords : ℕ) : List Stepped → World → Type 0 where
  beside_begins : IsRunBeside plan b coords [] (begun_world plan b coords)
  beside_goes_on : {steps : List Stepped} {w : World} (e : Option Event) (o : Outcome) → IsRunBeside plan b coords steps w → Moves plan w e o
      → IsRunBeside plan b coords (steps ++ (record { event = e; outcome = o }) ∷ []) o.world
