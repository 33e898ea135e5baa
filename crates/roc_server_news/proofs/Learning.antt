-- More lists keep those that are known
use Rattle.std.proofs.Common.{◌≡◌, Bool, true, false, cond, List, [], ◌∷◌, ◌++◌, Some, is_some, refl}
use Rattle.std.proofs.lemmas.Bool.{false≢true}
use Rattle.roc_base.specs.TxnId.{is_txn}
use Rattle.roc_depgraph.specs.declared.known.KnownList.{KnownList}
use Rattle.roc_depgraph.specs.Deps.{list_of, IsKnown}
use Rattle.roc_depgraph.proofs.Laws.{KeepsLists}

pub keeps_front : (old news : List KnownList) → KeepsLists old (old ++ news)
keeps_front [] news t h = absurd (false≢true h)
keeps_front (k ∷ ks) news t h = go (is_txn k.of t) h (keeps_front ks news t)
  where
    go : (b : Bool) → is_some (cond b (Some k.edges) (list_of t ks)) ≡ true → (IsKnown ks t → list_of t (ks ++ news) ≡ list_of t ks) → cond b (Some k.edges) (list_of t (ks ++ news)) ≡ cond b (Some k.edges) (list_of t ks)
    go true e ih = refl
    go false e ih = ih e
