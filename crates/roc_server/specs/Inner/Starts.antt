-- A group that starts, as its parts are made
use Rattle.std.specs.Prelude.{◌≡◌, ◌++◌, ◌∷◌, [], Bool, not, ◌&&◌, ◌==◌, nat_lt, if◌then◌else◌, List, Option, Some, None, is_none, length}
use Rattle.roc_base.specs.declared.id.TxnId.{TxnId}
use Rattle.roc_base.specs.declared.node.Shard.{Shard}
use Rattle.roc_group.specs.GroupRun.{GroupCall, call, group_run}
use Rattle.roc_msg.specs.Outbox.{Collected}
use Rattle.roc_depgraph.specs.Deps.{is_known}
use Rattle.roc_msg.specs.declared.reason.Reason.{Reason}
use Rattle.roc_msg.specs.declared.reason.Reason.TheVariants.{BadProc, BadGroup, BadInputs, NotHere, Late, Differs}
use Rattle.roc_plan.specs.Groups.{Plan, groups_of, is_immediate_of, shard_of, group_place}
use Rattle.roc_step.specs.declared.handled.Handled.{Handled}
use Rattle.roc_server.specs.declared.starts.Request.{Request}
use Rattle.roc_rows.specs.Store.{Store}
use Rattle.roc_step.specs.declared.started.StartedGroup.{StartedGroup}
use Rattle.roc_step.specs.New.{AreLedTo}
use Rattle.roc_step.specs.Start.{has_procedure, has_counts, differs, is_immediate_group, edges_for, new_group, start_new, startok_of, after_start}
use Rattle.roc_step.specs.Runs.{accesses_of}
use Rattle.roc_step.specs.State.{find_group, ServerState}
use Rattle.roc_step.specs.Step.{edges_of_new}
use Rattle.roc_server.specs.Inner.Shown.{ShowsStep}

-- the first of these reasons that holds
abbrev pub first_reason : List (Bool × Reason) → Option Reason
first_reason [] = None
first_reason (c ∷ cs) = if c.0 then Some c.1 else first_reason cs

-- why a start may be ignored
abbrev pub start_reasons : Plan → ServerState → TxnId → GroupCall → List (Bool × Reason)
start_reasons plan s id c =
    (not (has_procedure plan c.proc), BadProc)
    ∷ (not (nat_lt c.group (length (groups_of plan c.proc))), BadGroup)
    ∷ (not (has_counts plan c), BadInputs)
    ∷ (not (shard_of plan (group_place plan c.proc c.group c.args c.inputs) == s.shard.0), NotHere)
    ∷ (is_none (find_group id c.group s.started) && is_known s.lists.known id, Late)
    ∷ (differs s id c, Differs)
    ∷ []

-- why one is ignored that does not come too late
abbrev pub start_fault : Plan → ServerState → TxnId → GroupCall → Option Reason
start_fault plan s id c = first_reason (start_reasons plan s id c)

-- e is what is kept of a group that starts, and an immediate one ran: the cells then
pub record IsNewGroup (plan : Plan) (decided : List TxnId) (s : ServerState) (store : Store) (id : TxnId) (c : GroupCall) (e : StartedGroup) : Type 0 where
  pub reached : List TxnId
  pub led : AreLedTo s.lists.links (edges_for plan decided s id c) reached
  pub is : e ≡ new_group plan decided reached s id c
  pub ran : store ≡ (if is_immediate_group plan c then (group_run plan c s.store).store else s.store)

-- this is told of a group that starts, and one that is immediate ran
pub record TellsStart (plan : Plan) (shard : Shard) (e : StartedGroup) (before after : Collected) : Type 0 where
  pub messages : after.messages ≡ before.messages ++ startok_of shard e ∷ []
  pub decided : after.decided ≡ before.decided
  pub ran : after.ran ≡ before.ran ++ accesses_of (if is_immediate_of plan e.proc e.group then e ∷ [] else [])

-- a start was taken, or ignored: the state behind it
pub record StartTaken (plan : Plan) (decided : List TxnId) (s state : ServerState) (before after : Collected) (id : TxnId) (c : GroupCall) (answer : Handled) : Type 0 where
  pub reached : List TxnId
  pub led : AreLedTo s.lists.links (edges_of_new plan decided s id c) reached
  pub shown : ShowsStep (after_start plan decided reached s id c) answer state before after

-- a new group started
pub record StartsNew (plan : Plan) (decided : List TxnId) (s state : ServerState) (before after : Collected) (id : TxnId) (c : GroupCall) (answer : Handled) : Type 0 where
  pub reached : List TxnId
  pub led : AreLedTo s.lists.links (edges_for plan decided s id c) reached
  pub shown : ShowsStep (start_new plan s c (new_group plan decided reached s id c)) answer state before after

-- the call that a request asks for
abbrev pub asked : Request → GroupCall
asked r = call r.proc r.group r.known.args r.known.inputs
