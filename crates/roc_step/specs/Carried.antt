-- Lists that a message carries, beside those that are known: docs/PROTOCOL.md, "Lists"
use Rattle.std.specs.Prelude.{Bool, false, not, List, Option, Some, None, filter}
use Rattle.roc_base.specs.declared.id.TxnId.{TxnId}
use Rattle.roc_base.specs.Edge.{Dependency}
use Rattle.roc_base.specs.Equality.{is_edges}
use Rattle.roc_depgraph.specs.declared.known.KnownList.{KnownList}
use Rattle.roc_depgraph.specs.Deps.{list_of, is_known}
use Rattle.roc_msg.specs.Facts.{is_fact_before}
use Rattle.roc_msg.specs.InPlace.{in_place}

abbrev pub list_with : TxnId → List Dependency → KnownList
list_with id edges = record { of = id; edges = edges }

-- another list of the transaction is known
abbrev pub is_unlike : List KnownList → KnownList → Bool
is_unlike known k = is_other (list_of k.of known)
  where
    is_other : Option (List Dependency) → Bool
    is_other None = false
    is_other (Some kept) = not (is_edges kept k.edges)

-- a commit's own list among its facts, by id
abbrev pub carried : TxnId → List Dependency → List KnownList → List KnownList
carried id edges facts = in_place is_fact_before (list_with id edges) facts

-- the lists of transactions of which none is known
abbrev pub unknown_of : List KnownList → List KnownList → List KnownList
unknown_of known lists = filter (λ k. not (is_known known k.of)) lists
