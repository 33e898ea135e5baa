-- A view of a plan
use Rattle.std.specs.Prelude.{◌≡◌, true, length}
use Rattle.roc_plan.specs.Groups.{Plan, procedure_of, is_view_of}
use Rattle.roc_readonly.specs.declared.view.View.{View}

-- the procedure is a view of the plan, with its count of arguments
pub record IsViewOf (plan : Plan) (v : View) : Type 0 where
  pub is_view : is_view_of plan v.proc ≡ true
  pub args : length v.args ≡ (procedure_of plan v.proc).arguments
