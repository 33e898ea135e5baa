-- How the lists of rows change
use Rattle.std.specs.Prelude.{not, List, [], ◌∷◌, ◌++◌, map, filter}
use Rattle.roc_sequence.specs.Places.{is_listed}
use Rattle.roc_base.specs.declared.id.TxnId.{TxnId}
use Rattle.roc_base.specs.TxnId.{is_txn}
use Rattle.roc_base.specs.Edge.{Dependency}
use Rattle.roc_depgraph.specs.declared.known.KnownList.{KnownList}
use Rattle.roc_step.specs.Carried.{list_with}
use Rattle.roc_step.specs.Links.{without_links}

-- the lists as they came, and what is followed of each
pub record RowLists : Type 0 where
  pub known : List KnownList
  pub links : List KnownList

-- one more list stands behind the others; its entries that name one of these are not followed
abbrev pub with_list : (done : List TxnId) → TxnId → List Dependency → RowLists → RowLists
with_list done id edges k =
    record {
      known = k.known ++ list_with id edges ∷ [];
      links = k.links ++ without_links (is_listed is_txn done) (list_with id edges) ∷ [];
    }

-- without the list of a transaction, and with each entry done that names it
abbrev pub lists_ended : TxnId → RowLists → RowLists
lists_ended id k =
    record {
      known = filter (λ l. not (is_txn l.of id)) k.known;
      links = map (without_links (λ t. is_txn t id)) (filter (λ l. not (is_txn l.of id)) k.links);
    }

-- the list of a transaction is taken back: entries that name it stay
abbrev pub untold : TxnId → RowLists → RowLists
untold id k = record { known = filter (λ l. not (is_txn l.of id)) k.known; links = filter (λ l. not (is_txn l.of id)) k.links }
