-- What comes before a member, by its known list
use Rattle.std.specs.Prelude.{not, List, [], ◌∷◌, ◌++◌, map, filter}
use Rattle.roc_sequence.specs.Places.{is_listed}
use Rattle.roc_base.specs.declared.id.TxnId.{TxnId}
use Rattle.roc_base.specs.TxnId.{is_txn}
use Rattle.roc_base.specs.Edge.{Dependency}
use Rattle.roc_depgraph.specs.declared.known.KnownList.{KnownList}
use Rattle.roc_depgraph.specs.Deps.{entries_of}

-- the ids of a list's entries
abbrev pub from_ids : List Dependency → List TxnId
from_ids es = map (λ d. d.from) es

-- those of its immediate entries that are among ids
abbrev pub now_among : (ids : List TxnId) → List Dependency → List TxnId
now_among ids es = from_ids (filter (λ d. d.imm) (filter (λ d. is_listed is_txn ids d.from) es))

-- those that are not among ids
abbrev pub outside : (ids : List TxnId) → List TxnId → List TxnId
outside ids us = filter (λ u. not (is_listed is_txn ids u)) us

-- what leads to some of the ids from outside them
abbrev pub leading_to : List KnownList → (ids some : List TxnId) → List TxnId
leading_to known ids [] = []
leading_to known ids (t ∷ ts) = outside ids (from_ids (entries_of known t)) ++ leading_to known ids ts
