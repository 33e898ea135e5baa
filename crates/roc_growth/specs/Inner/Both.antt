-- The two runs that a run of two files is, and that the second begins well
use Rattle.std.specs.Prelude.{ℕ, List, Option}
use Rattle.roc_plan.specs.Groups.{Plan}
use Rattle.roc_plan.specs.Accepted.{IsAccepted}
use Rattle.roc_law_world.specs.World.{first_beginning}
use Rattle.roc_law_world.specs.Beginnings.{IsViewBeginning}
use Rattle.roc_law_world.specs.Fits.{FitsWorld}
use Rattle.roc_epoch.specs.declared.next.Next.{Next}
use Rattle.roc_epoch.specs.Files.{last_plan}
use Rattle.roc_epoch.specs.Grown.{IsGrownFrom}
use Rattle.roc_two_files.specs.Left.{AreDrained, left_behind}
use Rattle.roc_growth.specs.World.{GrownWorld}
use Rattle.roc_growth.specs.Run.{Stepped}
use Rattle.roc_growth.specs.Epochs.{AreEpochs}

pub record AreBoth (plan : Plan) (next : Option Next) (coords : ℕ) (steps : List Stepped) (g : GrownWorld) : Type 0 where
  pub epochs : AreEpochs plan next coords steps g
  pub fits : FitsWorld plan epochs.w
  pub fits_again : FitsWorld (last_plan plan next) epochs.v
  pub begins : IsViewBeginning plan (first_beginning plan)
  pub accepted : IsAccepted (last_plan plan next)
  pub grows : IsGrownFrom plan.program (last_plan plan next).program
  pub begins_again : AreDrained epochs.w.coords → IsViewBeginning (last_plan plan next) (left_behind plan (first_beginning plan) epochs.w)
