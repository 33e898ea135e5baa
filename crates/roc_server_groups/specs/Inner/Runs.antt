-- Runs of groups, among those that are kept
use Rattle.std.specs.Prelude.{◌≡◌, ℕ, not, true, false, List, Some, slice_set, filter}
use Rattle.roc_plan.specs.Groups.{Plan, is_immediate_of}
use Rattle.roc_group.specs.GroupRun.{group_run}
use Rattle.roc_rows.specs.Store.{Store}
use Rattle.roc_step.specs.declared.started.StartedGroup.{StartedGroup}
use Rattle.roc_step.specs.Runs.{group_call, run_groups}
use Rattle.roc_step.specs.State.{ServerState}
use Rattle.roc_server_groups.specs.Groups.{holding}

-- those of the groups that are buffered
abbrev pub buffered : Plan → List StartedGroup → List StartedGroup
buffered plan es = filter (λ e. not (is_immediate_of plan e.proc e.group)) es

-- these run one after another, and what they leave are those cells and groups
abbrev pub RunTo : Plan → List StartedGroup → (old new : List StartedGroup) → (before after : Store) → Type 0
RunTo plan es old new before after = (s : ServerState) → run_groups plan (holding s before old) es ≡ holding s after new

-- the group e at a place runs: the cells change by its run, and what it gave is kept with it
pub record RunsAt (plan : Plan) (e : StartedGroup) (at : ℕ) (old new : List StartedGroup) (before after : Store) : Type 0 where
  pub store : after ≡ (group_run plan (group_call e) before).store
  pub groups : new ≡ slice_set old at (record e { later = Some (group_run plan (group_call e) before).reply })

-- it runs so where it is buffered, and else nothing changes
pub record RunsIfBuffered (plan : Plan) (e : StartedGroup) (at : ℕ) (old new : List StartedGroup) (before after : Store) : Type 0 where
  pub runs : is_immediate_of plan e.proc e.group ≡ false → RunsAt plan e at old new before after
  pub groups : is_immediate_of plan e.proc e.group ≡ true → new ≡ old
  pub store : is_immediate_of plan e.proc e.group ≡ true → after ≡ before
