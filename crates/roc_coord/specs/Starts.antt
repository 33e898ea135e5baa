-- The start round: docs/PROTOCOL.md, "Coordinator"
use Rattle.std.specs.Prelude.{ℕ, ℤ, pos, Bool, not, ◌&&◌, ◌==◌, List, [], ◌∷◌, ◌++◌, Option, Some, None, is_some, is_none, length, map, filter, if◌then◌else◌}
use Rattle.std.specs.Prelude.{slice_index_or}
use Rattle.std.specs.List.{list_any, list_all, flat_map, range_with_len}
use Rattle.roc_base.specs.declared.node.Shard.{Shard}
use Rattle.roc_base.specs.declared.node.Node.TheVariants.{Server}
use Rattle.roc_base.specs.Edge.{Dependency}
use Rattle.roc_base.specs.Edges.{united}
use Rattle.roc_msg.specs.declared.msg.Msg.TheVariants.{Start, Commit}
use Rattle.roc_msg.specs.declared.outbox.Outgoing.{Outgoing}
use Rattle.roc_plan.specs.declared.group.Input.{Input}
use Rattle.roc_plan.specs.Groups.{Plan, groups_of, inputs_of, shard_of, bound_of, outs_of, group_of, group_place}
use Rattle.roc_base.specs.TxnId.{is_txn}
use Rattle.roc_depgraph.specs.declared.known.KnownList.{KnownList}
use Rattle.roc_msg.specs.Facts.{is_fact_before, fitting}
use Rattle.roc_msg.specs.InPlace.{in_place}
use Rattle.roc_coord.specs.declared.transaction.SentStart.{SentStart}
use Rattle.roc_coord.specs.declared.transaction.TakenStart.{TakenStart}
use Rattle.roc_coord.specs.declared.transaction.Transaction.{Transaction}
use Rattle.roc_coord.specs.State.{find_start, find_startok}

-- the numbers of a procedure's groups
abbrev pub group_numbers : Plan → ℕ → List ℕ
group_numbers plan proc = range_with_len 0 (length (groups_of plan proc))

-- the value that an input names, where the group that binds it has started
abbrev pub input_value : Transaction → Input → ℤ
input_value x i = value_in (find_startok i.group x.startoks)
  where
    value_in : Option TakenStart → ℤ
    value_in None = pos 0
    value_in (Some ok) = slice_index_or ok.bound i.at (pos 0)

abbrev pub inputs_for : Plan → Transaction → ℕ → List ℤ
inputs_for plan x group = map (input_value x) (inputs_of plan x.proc group)

-- all of a group's inputs are known
abbrev pub is_ready : Plan → Transaction → ℕ → Bool
is_ready plan x group = list_all (λ i. is_some (find_startok i.group x.startoks)) (inputs_of plan x.proc group)

-- its inputs are known, and it was not asked to start
abbrev pub can_start : Plan → Transaction → ℕ → Bool
can_start plan x group = is_ready plan x group && is_none (find_start group x.starts)

-- the groups that can start, by number
abbrev pub ready_groups : Plan → Transaction → List ℕ
ready_groups plan x = filter (can_start plan x) (group_numbers plan x.proc)

-- the shard of a group's place
abbrev pub shard_for : Plan → Transaction → ℕ → Shard
shard_for plan x group = record { 0 = shard_of plan (group_place plan x.proc group x.args (inputs_for plan x group)) }

abbrev pub start_for : Plan → Transaction → ℕ → Outgoing
start_for plan x group = record { to = Server (shard_for plan x group); msg = Start x.id x.proc group x.args (inputs_for plan x group) }

-- what is kept of a start that was sent
abbrev pub sent_start : Plan → Transaction → ℕ → SentStart
sent_start plan x group = record { group = group; shard = shard_for plan x group }

-- the starts of ready groups were sent
abbrev pub with_starts : Plan → Transaction → Transaction
with_starts plan x = record x { starts = x.starts ++ map (sent_start plan x) (ready_groups plan x) }

abbrev pub starts_of : Plan → Transaction → List Outgoing
starts_of plan x = map (start_for plan x) (ready_groups plan x)

-- every group has started
abbrev pub all_started : Plan → Transaction → Bool
all_started plan x = list_all (λ g. is_some (find_startok g x.startoks)) (group_numbers plan x.proc)

-- all that comes before the transaction: the union of what its groups were told
abbrev pub all_edges : Transaction → List Dependency
all_edges x = united (flat_map (λ ok. ok.edges) x.startoks)

-- the shards below a number that were asked to start a group, rising
unfoldable pub shards_below : ℕ → List SentStart → List Shard
shards_below count starts = filter (λ shard. list_any (λ start. start.shard.0 == shard.0) starts) (map (λ n. record { 0 = n }) (range_with_len 0 count))

-- the shards of its groups, rising
abbrev pub shards_of : Transaction → List Shard
shards_of x = shards_below 64 x.starts

-- lists by id rising; of two of one transaction the first stands
abbrev pub gathered : List KnownList → List KnownList
gathered [] = []
gathered (fact ∷ facts) = in_place is_fact_before fact (gathered facts)

-- what the startoks told of others, in the order in which they were taken, as much as travels along
abbrev pub all_facts : Transaction → List KnownList
all_facts x = fitting (filter (λ fact. not (is_txn fact.of x.id)) (gathered (flat_map (λ ok. ok.facts) x.startoks)))

-- a commit to one of its shards
abbrev pub commit_to : Transaction → Shard → Outgoing
commit_to x shard = record { to = Server shard; msg = Commit x.id (all_edges x) (all_facts x) }

abbrev pub commits_of : Transaction → List Outgoing
commits_of x = map (commit_to x) (shards_of x)

-- how many values a group binds and gives when it starts: none where it waits
abbrev pub bound_count : Plan → ℕ → ℕ → ℕ
bound_count plan proc group = if (group_of plan proc group).is_immediate then length (bound_of plan proc group) else 0

abbrev pub out_count : Plan → ℕ → ℕ → ℕ
out_count plan proc group = if (group_of plan proc group).is_immediate then length (outs_of plan proc group) else 0
