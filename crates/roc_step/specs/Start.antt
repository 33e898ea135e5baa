-- A start: docs/PROTOCOL.md, "Start"
use Rattle.std.specs.Prelude.{ℕ, Bool, true, false, not, ◌&&◌, ◌==◌, nat_lt, List, [], ◌∷◌, ◌++◌, Option, Some, None, is_none, length, map, filter, if◌then◌else◌}
use Rattle.std.specs.List.{list_any, flat_map}
use Rattle.roc_sequence.specs.Places.{is_listed}
use Rattle.roc_base.specs.declared.id.TxnId.{TxnId}
use Rattle.roc_base.specs.declared.node.Shard.{Shard}
use Rattle.roc_base.specs.declared.node.Node.TheVariants.{Coord}
use Rattle.roc_base.specs.TxnId.{is_txn}
use Rattle.roc_base.specs.Edge.{Dependency}
use Rattle.roc_base.specs.Edges.{united}
use Rattle.roc_base.specs.Equality.{is_nums, same_tag}
use Rattle.roc_depgraph.specs.Deps.{is_known}
use Rattle.roc_msg.specs.declared.msg.Msg.TheVariants.{StartOk}
use Rattle.roc_msg.specs.declared.outbox.Outgoing.{Outgoing}
use Rattle.roc_msg.specs.declared.reason.Reason.TheVariants.{BadProc, BadGroup, BadInputs, NotHere, Late, Differs}
use Rattle.roc_plan.specs.declared.group.Class.{Class}
use Rattle.roc_plan.specs.declared.group.Class.TheVariants.{Immediate, Deferrable}
use Rattle.roc_plan.specs.Groups.{Plan, procedure_of, groups_of, is_immediate_of, inputs_of, shard_of, group_place, is_transaction}
use Rattle.roc_group.specs.declared.access.Access.{Access}
use Rattle.roc_group.specs.Accesses.{do_conflict}
use Rattle.roc_group.specs.GroupRun.{GroupCall, group_run, group_uses, bound_by_run}
use Rattle.roc_step.specs.Piggyback.{facts_of}
use Rattle.roc_rows.specs.declared.cell.Cell.{Cell}
use Rattle.roc_rows.specs.Cells.{is_cell}
use Rattle.roc_step.specs.declared.handled.Handled.{Handled}
use Rattle.roc_step.specs.declared.handled.Handled.TheVariants.{Done, Ignored, Gone}
use Rattle.roc_step.specs.Below.{is_ended}
use Rattle.roc_step.specs.declared.started.StartedGroup.{StartedGroup}
use Rattle.roc_step.specs.State.{refused, answered, first_answer, find_group, ServerState, ServerStep}

-- ---- why it is not taken

-- the plan has the procedure, and it may write: a view has no groups that start
abbrev pub has_procedure : Plan → ℕ → Bool
has_procedure plan proc = is_transaction plan proc

-- as many arguments and inputs as the plan has
abbrev pub has_counts : Plan → GroupCall → Bool
has_counts plan c = length c.args == (procedure_of plan c.proc).arguments && length c.inputs == length (inputs_of plan c.proc c.group)

-- a group of the transaction started here with another procedure or other arguments
abbrev pub differs : ServerState → TxnId → GroupCall → Bool
differs s id c = list_any (λ e. is_txn e.id id && not (e.proc == c.proc && is_nums e.args c.args)) s.started

-- what a start is answered that is not taken: it comes too late of a transaction that is ended, or is ignored
abbrev pub start_refusal : Plan → ServerState → TxnId → GroupCall → Option Handled
start_refusal plan s id c =
    first_answer (
    (is_none (find_group id c.group s.started) && is_ended s.below id, Gone)
    ∷ (not (has_procedure plan c.proc), Ignored BadProc)
    ∷ (not (nat_lt c.group (length (groups_of plan c.proc))), Ignored BadGroup)
    ∷ (not (has_counts plan c), Ignored BadInputs)
    ∷ (not (shard_of plan (group_place plan c.proc c.group c.args c.inputs) == s.shard.0), Ignored NotHere)
    ∷ (is_none (find_group id c.group s.started) && is_known s.lists.known id, Ignored Late)
    ∷ (differs s id c, Ignored Differs)
    ∷ [])

-- ---- a group that starts now. `left_out` are the transactions that it leaves out

abbrev pub is_immediate_group : Plan → GroupCall → Bool
is_immediate_group plan c = is_immediate_of plan c.proc c.group

abbrev pub is_immediate : Class → Bool
is_immediate Immediate = true
is_immediate Deferrable = false

-- an earlier group of another transaction that is not left out, of this class, with a cell in common that one of the two writes
abbrev pub conflicts_before : Plan → (left_out : List TxnId) → TxnId → (immediate : Bool) → List Access → StartedGroup → Bool
conflicts_before plan left_out id immediate cells e =
    not (is_txn e.id id) && (not (is_listed is_txn left_out e.id) && (same_tag (is_immediate_of plan e.proc e.group) immediate && do_conflict e.cells cells))

abbrev pub is_predecessor : Plan → (left_out : List TxnId) → TxnId → GroupCall → List Access → StartedGroup → Bool
is_predecessor plan left_out id c cells e = conflicts_before plan left_out id (is_immediate_group plan c) cells e

-- the entry for it: its tag is the class, its shard this one
abbrev pub edge_to : Shard → (immediate : Bool) → StartedGroup → Dependency
edge_to shard immediate e = record { from = e.id; imm = immediate; def = not immediate; at = shard }

-- the entries for all of them, where a group of this class with these cells starts
abbrev pub entries_for : Plan → (left_out : List TxnId) → ServerState → TxnId → (immediate : Bool) → List Access → List Dependency
entries_for plan left_out s id immediate cells = united (map (edge_to s.shard immediate) (filter (conflicts_before plan left_out id immediate cells) s.started))

abbrev pub edges_for : Plan → (left_out : List TxnId) → ServerState → TxnId → GroupCall → List Dependency
edges_for plan left_out s id c = entries_for plan left_out s id (is_immediate_group plan c) (group_uses plan c s.store)

-- ---- how many started groups a start looks at

abbrev pub uses_cell : Cell → StartedGroup → Bool
uses_cell c e = list_any (λ a. is_cell a.cell c) e.cells

-- a group that is not left out, of this class, that uses the cell
abbrev pub is_user : Plan → (left_out : List TxnId) → (immediate : Bool) → Cell → StartedGroup → Bool
is_user plan left_out immediate c e = not (is_listed is_txn left_out e.id) && (same_tag (is_immediate_of plan e.proc e.group) immediate && uses_cell c e)

-- for each cell of the list the groups that use it: there are as many as pairs of a cell and such a group
abbrev pub users : Plan → (left_out : List TxnId) → (immediate : Bool) → List Access → List StartedGroup → List StartedGroup
users plan left_out immediate cells started = flat_map (λ a. filter (is_user plan left_out immediate a.cell) started) cells

-- what is kept of the group. An immediate one runs now, so that its startok tells what it bound and what it adds to the reply
abbrev pub new_group : Plan → (left_out reached : List TxnId) → ServerState → TxnId → GroupCall → StartedGroup
new_group plan left_out reached s id c =
    record {
      id = id;
      proc = c.proc;
      group = c.group;
      args = c.args;
      inputs = c.inputs;
      cells = group_uses plan c s.store;
      bound = if is_immediate_group plan c then bound_by_run plan c s.store else [];
      outs = if is_immediate_group plan c then (group_run plan c s.store).reply else [];
      edges = edges_for plan left_out s id c;
      facts = facts_of s.lists.known reached;
      later = None;
    }

-- what its coordinator is told
abbrev pub startok_of : Shard → StartedGroup → Outgoing
startok_of shard e = record { to = Coord e.id.coord; msg = StartOk e.id e.group shard e.bound e.outs e.edges e.facts }

-- it stands behind those that are here; an immediate one runs, a deferrable one is buffered
abbrev pub start_new : Plan → ServerState → GroupCall → StartedGroup → ServerStep
start_new plan s c e =
    record {
      answer = Done;
      state = record s { store = if is_immediate_group plan c then (group_run plan c s.store).store else s.store; started = s.started ++ e ∷ [] };
      sends = startok_of s.shard e ∷ [];
      components = [];
      decided = [];
      ran = if is_immediate_group plan c then e ∷ [] else [];
    }

-- ---- what comes of a start: a group that is here is told again as it was told before

abbrev pub start_taken : Plan → (left_out reached : List TxnId) → ServerState → TxnId → GroupCall → Option StartedGroup → ServerStep
start_taken plan left_out reached s id c (Some e) = answered s (startok_of s.shard e ∷ [])
start_taken plan left_out reached s id c None = start_new plan s c (new_group plan left_out reached s id c)

abbrev pub start_judged : Plan → (left_out reached : List TxnId) → ServerState → TxnId → GroupCall → Option Handled → ServerStep
start_judged plan left_out reached s id c (Some answer) = refused s answer
start_judged plan left_out reached s id c None = start_taken plan left_out reached s id c (find_group id c.group s.started)

abbrev pub after_start : Plan → (left_out reached : List TxnId) → ServerState → TxnId → GroupCall → ServerStep
after_start plan left_out reached s id c = start_judged plan left_out reached s id c (start_refusal plan s id c)
