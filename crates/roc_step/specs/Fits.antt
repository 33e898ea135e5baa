-- What a server holds is of a plan: its groups are the plan's, with the plan's counts
use Rattle.std.specs.Prelude.{◌≡◌, ◌<◌, true, false, List, length}
use Rattle.std.specs.List.{AllByRecursion}
use Rattle.roc_plan.specs.Groups.{Plan, procedure_of, groups_of, inputs_of, is_view_of}
use Rattle.roc_group.specs.GroupRun.{GroupCall}
use Rattle.roc_step.specs.declared.kept_read.KeptRead.{KeptRead}
use Rattle.roc_step.specs.declared.started.StartedGroup.{StartedGroup}
use Rattle.roc_step.specs.Runs.{group_call}
use Rattle.roc_step.specs.State.{ServerState}

-- the plan has the group of the call, of a procedure that is no view, and takes as many arguments and inputs
pub record IsCallOf (plan : Plan) (c : GroupCall) : Type 0 where
  pub procedure : c.proc < length plan.program.procedures
  pub transaction : is_view_of plan c.proc ≡ false
  pub group : c.group < length (groups_of plan c.proc)
  pub args : length c.args ≡ (procedure_of plan c.proc).arguments
  pub inputs : length c.inputs ≡ length (inputs_of plan c.proc c.group)

-- each group started by such a call
abbrev pub AreGroupsOf : Plan → List StartedGroup → Type 0
AreGroupsOf plan started = AllByRecursion (λ e. IsCallOf plan (group_call e)) started

abbrev pub ServerFits : Plan → ServerState → Type 0
ServerFits plan s = AreGroupsOf plan s.started

-- the plan has the group of the read, of a view that takes as many arguments
pub record IsReadOf (plan : Plan) (q : KeptRead) : Type 0 where
  pub view : is_view_of plan q.proc ≡ true
  pub group : q.group < length (groups_of plan q.proc)
  pub args : length q.args ≡ (procedure_of plan q.proc).arguments

-- each read that is kept is such a one
abbrev pub AreReadsOf : Plan → List KeptRead → Type 0
AreReadsOf plan reads = AllByRecursion (IsReadOf plan) reads
