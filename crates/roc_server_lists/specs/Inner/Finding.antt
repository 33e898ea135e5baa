-- New lists are learnt, and what comes of them is found, part by part
use Rattle.std.specs.Prelude.{◌≡◌, ◌++◌, ◌&&◌, ◌==◌, ℕ, suc, min, Bool, not, List, filter, map, if◌then◌else◌}
use Rattle.std.specs.List.{flat_map}
use Rattle.std.specs.List.Sorted.{IsStrictlySortedBy}
use Rattle.roc_sequence.specs.Lists.{Has}
use Rattle.roc_sequence.specs.Places.{is_listed, IsListed}
use Rattle.roc_base.specs.declared.id.TxnId.{TxnId}
use Rattle.roc_base.specs.declared.node.Shard.{Shard}
use Rattle.roc_base.specs.TxnId.{is_txn, txn_cmp}
use Rattle.roc_base.specs.Edge.{Dependency}
use Rattle.roc_base.specs.Edges.{united}
use Rattle.roc_depgraph.specs.declared.known.KnownList.{KnownList}
use Rattle.roc_step.specs.declared.started.StartedGroup.{StartedGroup}
use Rattle.roc_step.specs.declared.waits.OpenFetch.{OpenFetch}
use Rattle.roc_step.specs.Asking.{asked_of}
use Rattle.roc_step.specs.Below.{is_ended}
use Rattle.roc_step.specs.Links.{all_entries, least_naming, without_links}
use Rattle.roc_step.specs.New.{AreNewTaken}
use Rattle.roc_step.specs.State.{is_here}
use Rattle.roc_server_table.specs.Kept.{TableLists}
use Rattle.roc_server_lists.specs.declared.teaching.Named.{Named}
use Rattle.roc_server_lists.specs.declared.parts.ListParts.{ListParts}
use Rattle.roc_server_lists.specs.declared.trial.Found.{Found}
use Rattle.roc_server_lists.specs.ListsNow.{is_missing_at}

-- ---- what the definitions say of a state, by the parts of it that they look at

-- entries of this transaction are done by what these lists tell
abbrev pub is_done_at : Shard → List StartedGroup → (below : List ℕ) → (known : List KnownList) → TxnId → Bool
is_done_at shard started below known id = is_ended below id && (not (is_here id started) && least_naming id (suc shard.0) (all_entries known) == shard.0)

-- what is followed of new lists
abbrev pub links_at : Shard → List StartedGroup → ListParts → (news : List KnownList) → List KnownList
links_at shard started k news = map (without_links (is_done_at shard started k.marks (k.table.known ++ news))) news

-- entries of this transaction are done as they are learnt, where the shard of one is the least that new lists tell
abbrev pub is_done_with : Shard → List StartedGroup → (below : List ℕ) → (known : List KnownList) → Dependency → Bool
is_done_with shard started below known d =
    is_ended below d.from && (not (is_here d.from started) && least_naming d.from (min d.at.0 (suc shard.0)) (all_entries known) == shard.0)

-- what is followed is of the lists as they came, place by place
abbrev pub AreIdsSame : TableLists → Type 0
AreIdsSame t = map (λ k. k.of) t.links ≡ map (λ k. k.of) t.known

-- ---- what is found

-- what is asked for, of the least shard that entries tell: of a transaction that is not ended, no known list tells more than the entry
abbrev pub asked_by : (marks : List ℕ) → (known : List KnownList) → Dependency → OpenFetch
asked_by marks known d = if is_ended marks d.from then asked_of known d else record { id = d.from; at = d.at }

-- new lists were learnt, with what is followed of them, and this is what they name, and whose entries are done
pub record Learns (shard : Shard) (started : List StartedGroup) (old new : ListParts) (news : List KnownList) (named : Named) : Type 0 where
  pub is : new ≡ record old { table = record old.table { known = old.table.known ++ news; links = old.table.links ++ links_at shard started old news } }
  pub edges : named.edges ≡ united (all_entries news)
  pub rising : IsStrictlySortedBy txn_cmp named.done.items
  pub done : (d : Dependency) → Has d (all_entries news) → is_listed is_txn named.done.items d.from ≡ is_done_at shard started old.marks (old.table.known ++ news) d.from

-- this is missing, and this is what is newly decided
pub record FindsOfNews (started : List StartedGroup) (k : ListParts) (named : Named) (found : Found) : Type 0 where
  pub missing : found.asks.items
      ≡ map (asked_by k.marks k.table.known) (filter (λ d. not (is_listed is_txn named.done.items d.from) && is_missing_at started k.table.links k.waits.waiting.asked d) named.edges)
  pub chosen : AreNewTaken (IsListed is_txn k.table.decided) k.table.links found.components.items
  pub ids : found.ids.items ≡ flat_map (λ c. c) found.components.items

-- all is as it was, room aside
pub record AreAlike (old new : ListParts) : Type 0 where
  pub table : new.table ≡ old.table
  pub waiting : new.waits.waiting ≡ old.waits.waiting
  pub fetches : new.waits.fetches ≡ old.waits.fetches
  pub marks : new.marks ≡ old.marks
  pub taken : new.taken.components ≡ old.taken.components
