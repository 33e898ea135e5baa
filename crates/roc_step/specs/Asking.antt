-- Who is told a list, and what is asked for: docs/PROTOCOL.md, "Lists" and "Fetches"
use Rattle.std.specs.Prelude.{not, List, map, filter}
use Rattle.std.specs.List.{list_any}
use Rattle.roc_base.specs.declared.node.Shard.{Shard}
use Rattle.roc_base.specs.declared.node.Node.TheVariants.{Server}
use Rattle.roc_base.specs.TxnId.{is_txn}
use Rattle.roc_base.specs.Edge.{Dependency}
use Rattle.roc_depgraph.specs.declared.known.KnownList.{KnownList}
use Rattle.roc_step.specs.declared.waits.OpenFetch.{OpenFetch}
use Rattle.roc_step.specs.declared.waits.Asker.{Asker}
use Rattle.roc_step.specs.Waits.{Waiting, with_all_asked, askers_of}
use Rattle.roc_msg.specs.declared.msg.Msg.TheVariants.{Fetch, Known}
use Rattle.roc_msg.specs.declared.outbox.Outgoing.{Outgoing}
use Rattle.roc_step.specs.Links.{all_entries, least_naming}

-- a list goes to each that asked for it
abbrev pub known_to : KnownList → Asker → Outgoing
known_to k a = record { to = Server a.shard; msg = Known k.of k.edges }

abbrev pub knowns_for : List Asker → KnownList → List Outgoing
knowns_for askers k = map (known_to k) (askers_of k.of askers)

-- the list that an entry names, with the least shard that saw its transaction by any known list
abbrev pub asked_of : List KnownList → Dependency → OpenFetch
asked_of known d = record { id = d.from; at = record { 0 = least_naming d.from d.at.0 (all_entries known) } }

abbrev pub fetch_from : Shard → OpenFetch → Outgoing
fetch_from shard a = record { to = Server a.at; msg = Fetch a.id shard }

-- the askers of these lists are dropped, and what is missing was asked for
abbrev pub waiting_after : Waiting → (news : List KnownList) → List OpenFetch → Waiting
waiting_after w news asks = record { asked = with_all_asked asks w.asked; askers = filter (λ a. not (list_any (λ k. is_txn k.of a.id) news)) w.askers }

-- what is open then: no fetch of these lists, and what is missing
abbrev pub open_after : List OpenFetch → (news : List KnownList) → List OpenFetch → List OpenFetch
open_after fetches news asks = with_all_asked asks (filter (λ a. not (list_any (λ k. is_txn k.of a.id) news)) fetches)
