-- What teaching a list answers, and what is known afterwards: docs/PROTOCOL.md, "Lists"
use Rattle.std.specs.Prelude.{◌≡◌, ◌≢◌, List, Some, None}
use Rattle.roc_base.specs.declared.id.TxnId.{TxnId}
use Rattle.roc_base.specs.Edge.{Dependency}
use Rattle.roc_depgraph.specs.declared.known.KnownList.{KnownList}
use Rattle.roc_depgraph.specs.declared.learnt.Learnt.{Learnt}
use Rattle.roc_depgraph.specs.declared.learnt.Learnt.TheVariants.{New, Repeat, Differs}
use Rattle.roc_depgraph.specs.Deps.{list_of, learnt}

-- A list of id is kept where none was known. An equal or an unlike one that is kept stays, and nothing is learnt
abbrev pub Learns : TxnId → List Dependency → (old : List KnownList) → Learnt → (new : List KnownList) → Type 0
Learns id edges old New new = (list_of id old ≡ None) × (new ≡ learnt old id edges)
Learns id edges old Repeat new = (list_of id old ≡ Some edges) × (new ≡ old)
Learns id edges old Differs new = ((kept : List Dependency) × (list_of id old ≡ Some kept) × (kept ≢ edges)) × (new ≡ old)
