-- What a coordinator holds is of a plan
use Rattle.std.specs.Prelude.{◌≡◌, ◌<◌, length}
use Rattle.std.specs.List.{AllByRecursion}
use Rattle.roc_plan.specs.Groups.{Plan, procedure_of, groups_of}
use Rattle.roc_coord.specs.declared.transaction.Transaction.{Transaction}
use Rattle.roc_readonly.specs.Fits.{IsViewOf}
use Rattle.roc_coord.specs.State.{CoordState}

-- the procedure is the plan's, with its count of arguments, and what was started or told is of its groups
pub record IsTransactionOf (plan : Plan) (x : Transaction) : Type 0 where
  pub procedure : x.proc < length plan.program.procedures
  pub args : length x.args ≡ (procedure_of plan x.proc).arguments
  pub starts : AllByRecursion (λ start. start.group < length (groups_of plan x.proc)) x.starts
  pub startoks : AllByRecursion (λ ok. ok.group < length (groups_of plan x.proc)) x.startoks

abbrev pub CoordFits : Plan → CoordState → Type 0
CoordFits plan s = AllByRecursion (IsTransactionOf plan) s.pending × AllByRecursion (IsViewOf plan) s.views
