-- The known lists of a set of transactions, without what leads out of it
use Rattle.std.specs.Prelude.{List, map, filter}
use Rattle.roc_base.specs.declared.id.TxnId.{TxnId}
use Rattle.roc_base.specs.TxnId.{is_txn}
use Rattle.roc_depgraph.specs.declared.known.KnownList.{KnownList}
use Rattle.roc_depgraph.specs.Deps.{entries_of}
use Rattle.roc_sequence.specs.Places.{is_listed}

-- the lists of ids, each without the entries that lead out of M
abbrev pub within : List KnownList → (M ids : List TxnId) → List KnownList
within known M ids = map (λ t. record { of = t; edges = filter (λ d. is_listed is_txn M d.from) (entries_of known t) }) ids
