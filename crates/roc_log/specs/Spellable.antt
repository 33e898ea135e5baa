-- Which messages have a spelling: their counts and the numbers of their nodes are in range, and a mark that settles is past its id. All else that a spelling asks for, the types
-- of messages see to: ids of entries rise, each entry has a tag, and numbers have their widths. Only forged messages lead a node to one
-- that has none: docs/PROTOCOL.md, "Running nodes"
use Rattle.std.specs.Prelude.{ℕ, ◌-◌, ℤ, Bool, true, ◌&&◌, nat_lt, nat_le, List, [], ◌∷◌, length}
use Rattle.std.specs.List.{list_all}
use Rattle.roc_base.specs.declared.id.TxnId.{TxnId}
use Rattle.roc_base.specs.declared.node.Shard.{Shard}
use Rattle.roc_base.specs.Edge.{Dependency}
use Rattle.roc_depgraph.specs.declared.known.KnownList.{KnownList}
use Rattle.roc_msg.specs.declared.msg.Msg.{Msg}
use Rattle.roc_msg.specs.declared.msg.Msg.TheVariants.{Start, StartOk, Commit, CommitOk, Fetch, Known, Stop, Ended, Settled, Read, ReadOk, Drained, Switched}
use Rattle.roc_msg.specs.Facts.{most_facts, most_fact_edges}
use Rattle.roc_wire.specs.Fits.{last_coordinator, last_shard, most_args, most_nums, most_versions, most_edges}

abbrev pub id_in_range : TxnId → Bool
id_in_range id = nat_le id.coord last_coordinator

abbrev pub shard_in_range : Shard → Bool
shard_in_range shard = nat_le shard.0 last_shard

abbrev pub few_nums : ℕ → List ℤ → Bool
few_nums most nums = nat_le (length nums) most

abbrev pub few_versions : List ℕ → Bool
few_versions versions = nat_le (length versions) most_versions

abbrev pub edge_in_range : Dependency → Bool
edge_in_range edge = id_in_range edge.from && shard_in_range edge.at

abbrev pub edges_in_range : ℕ → List Dependency → Bool
edges_in_range most edges = nat_le (length edges) most && list_all edge_in_range edges

-- with so many entries at most, in all lists together
abbrev pub lists_in_range : (entries : ℕ) → List KnownList → Bool
lists_in_range entries [] = true
lists_in_range entries (fact ∷ facts) = (id_in_range fact.of && edges_in_range entries fact.edges) && lists_in_range (entries - length fact.edges) facts

abbrev pub facts_in_range : List KnownList → Bool
facts_in_range facts = nat_le (length facts) most_facts && lists_in_range most_fact_edges facts

abbrev pub has_spelling : Msg → Bool
has_spelling (Start id proc group args inputs) = id_in_range id && few_nums most_args args && few_nums most_nums inputs
has_spelling (StartOk id group shard bound outs edges facts) =
    id_in_range id && shard_in_range shard && few_nums most_nums bound && few_nums most_nums outs && edges_in_range most_edges edges && facts_in_range facts
has_spelling (Commit id edges facts) = id_in_range id && edges_in_range most_edges edges && facts_in_range facts
has_spelling (CommitOk id shard outs) = id_in_range id && shard_in_range shard && few_nums most_nums outs
has_spelling (Fetch id asker) = id_in_range id && shard_in_range asker
has_spelling (Known id edges) = id_in_range id && edges_in_range most_edges edges
has_spelling Stop = true
has_spelling (Ended coord below) = nat_le coord last_coordinator
has_spelling (Settled id below) = id_in_range id && nat_lt id.seq below
has_spelling (Read id round proc group args) = id_in_range id && few_nums most_args args
has_spelling (ReadOk id round group shard versions outs) = id_in_range id && shard_in_range shard && (few_versions versions && few_nums most_nums outs)
has_spelling (Drained upto) = id_in_range upto
has_spelling (Switched upto shard) = id_in_range upto && shard_in_range shard
