-- What waits on a server until its transaction is decided
use Rattle.std.specs.Prelude.{Bool, not, ◌&&◌, List, map, filter}
use Rattle.roc_sequence.specs.Places.{is_listed}
use Rattle.roc_base.specs.declared.id.TxnId.{TxnId}
use Rattle.roc_base.specs.TxnId.{is_txn}
use Rattle.roc_plan.specs.Groups.{Plan, is_immediate_of}
use Rattle.roc_step.specs.declared.started.StartedGroup.{StartedGroup}
use Rattle.roc_step.specs.declared.waiting.Waiting.{Waiting}
use Rattle.roc_step.specs.State.{ServerState}

-- a group is buffered, and its transaction is none of the decided ones
abbrev pub is_waiting : Plan → (decided : List TxnId) → StartedGroup → Bool
is_waiting plan decided e = not (is_immediate_of plan e.proc e.group) && not (is_listed is_txn decided e.id)

-- what is shown of it
abbrev pub waiting_of : StartedGroup → Waiting
waiting_of e = record { id = e.id; cells = e.cells }

-- all of them, in order of arrival
abbrev pub waiting_groups : Plan → (decided : List TxnId) → ServerState → List Waiting
waiting_groups plan decided s = map waiting_of (filter (is_waiting plan decided) s.started)
