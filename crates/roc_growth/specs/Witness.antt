-- The serial order that a world of two files shows, and the step that submitted an id
use Rattle.std.specs.Prelude.{◌≡◌, ℕ, ℤ, List, ◌∷◌, ◌++◌, Option, Some, slice_get}
use Rattle.roc_base.specs.declared.id.TxnId.{TxnId}
use Rattle.roc_plan.specs.Groups.{Plan}
use Rattle.roc_epoch.specs.declared.next.Next.{Next}
use Rattle.roc_law_world.specs.Witness.{witness_in}
use Rattle.roc_grown.specs.Coord.{GrownCoordState}
use Rattle.roc_growth.specs.declared.event.Event.TheVariants.{Submit}
use Rattle.roc_growth.specs.declared.event.Seen.TheVariants as seen
use Rattle.roc_growth.specs.World.{GrownWorld}
use Rattle.roc_growth.specs.Happens.{Outcome}
use Rattle.roc_growth.specs.Run.{Stepped, IsGrownRun}

-- that of its transactions, with each answered view put in where it looked last
abbrev pub witness_of : GrownWorld → List TxnId
witness_of w = witness_in w.history w.order w.looks

-- a step of the run submitted t, at the coordinator that was c then
pub record IsSubmissionAt (plan : Plan) (next : Option Next) (coords : ℕ) (steps : List Stepped) (t : TxnId) (c : GrownCoordState) : Type 0 where
  pub front : List Stepped
  pub behind : List Stepped
  pub before : GrownWorld
  pub run : IsGrownRun plan next coords front before
  pub there : slice_get before.coords t.coord ≡ Some c
  pub proc : ℕ
  pub args : List ℤ
  pub outcome : Outcome
  pub at : steps ≡ front ++ record { event = Some (Submit t.coord proc args); outcome = outcome } ∷ behind
  pub accepted : outcome.seen ≡ seen.Submitted t
