-- Buffered groups that run: docs/PROTOCOL.md, "Lists"
use Rattle.std.specs.Prelude.{ℕ, ℤ, not, List, [], ◌∷◌, Option, Some, None, length, map, filter, unwrap_or, find, if◌then◌else◌}
use Rattle.std.specs.List.{filter_map, flat_map, range_with_len}
use Rattle.roc_base.specs.declared.id.TxnId.{TxnId}
use Rattle.roc_base.specs.declared.node.Node.TheVariants.{Coord}
use Rattle.roc_base.specs.declared.node.Shard.{Shard}
use Rattle.roc_base.specs.TxnId.{is_txn}
use Rattle.roc_msg.specs.declared.msg.Msg.TheVariants.{CommitOk}
use Rattle.roc_msg.specs.declared.outbox.Outgoing.{Outgoing}
use Rattle.roc_msg.specs.declared.outbox.Ran.{Ran}
use Rattle.roc_plan.specs.Groups.{Plan, groups_of, is_immediate_of}
use Rattle.roc_group.specs.GroupRun.{GroupCall, group_run}
use Rattle.roc_step.specs.declared.started.StartedGroup.{StartedGroup}
use Rattle.roc_step.specs.State.{is_group, find_group, ServerState}

-- how many groups the procedure of a group has
abbrev pub count_of_groups : Plan → Option StartedGroup → ℕ
count_of_groups plan None = 0
count_of_groups plan (Some e) = length (groups_of plan e.proc)

-- the groups of a transaction here, by number
abbrev pub groups_here : Plan → TxnId → List StartedGroup → List StartedGroup
groups_here plan id started = filter_map (λ g. find_group id g started) (range_with_len 0 (count_of_groups plan (find (λ e. is_txn e.id id) started)))

-- those of them that wait until it is decided
abbrev pub buffered_here : Plan → TxnId → List StartedGroup → List StartedGroup
buffered_here plan id started = filter (λ e. not (is_immediate_of plan e.proc e.group)) (groups_here plan id started)

abbrev pub group_call : StartedGroup → GroupCall
group_call e = record { proc = e.proc; group = e.group; args = e.args; inputs = e.inputs }

-- what a buffered group gave is kept with it
abbrev pub with_later : StartedGroup → List ℤ → List StartedGroup → List StartedGroup
with_later e outs started = map (λ g. if is_group e.id e.group g then record g { later = Some outs } else g) started

-- a buffered group runs here
abbrev pub run_group : Plan → ServerState → StartedGroup → ServerState
run_group plan s e =
    let run = group_run plan (group_call e) s.store in
    record s { store = run.store; started = with_later e run.reply s.started }

abbrev pub run_groups : Plan → ServerState → List StartedGroup → ServerState
run_groups plan s [] = s
run_groups plan s (e ∷ es) = run_groups plan (run_group plan s e) es

-- transactions are taken one by one: the buffered groups of each run in group order
abbrev pub take_all : Plan → ServerState → List TxnId → ServerState
take_all plan s [] = s
take_all plan s (t ∷ ts) = take_all plan (run_groups plan s (buffered_here plan t s.started)) ts

-- the groups that run so
abbrev pub all_buffered : Plan → List StartedGroup → List TxnId → List StartedGroup
all_buffered plan started ts = flat_map (λ t. buffered_here plan t started) ts

-- the accesses of groups, one after another
abbrev pub accesses_of : List StartedGroup → List Ran
accesses_of es = flat_map (λ e. map (λ a. record { id = e.id; cell = a.cell; writes = a.writes }) e.cells) es

-- what the coordinator is told: what the transaction's buffered groups here gave, in group order
abbrev pub outs_here : Plan → TxnId → List StartedGroup → List ℤ
outs_here plan id started = flat_map (λ e. unwrap_or e.later []) (groups_here plan id started)

abbrev pub commitok : Plan → Shard → List StartedGroup → TxnId → Outgoing
commitok plan shard started id = record { to = Coord id.coord; msg = CommitOk id shard (outs_here plan id started) }

abbrev pub commitok_of : Plan → ServerState → TxnId → Outgoing
commitok_of plan s id = commitok plan s.shard s.started id
