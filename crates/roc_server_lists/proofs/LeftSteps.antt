-- What is left of lists once some of their transactions are forgotten
use Rattle.std.proofs.Common.{◌≡◌, Bool, false, not, List, map, filter, sym, subst}
use Rattle.std.proofs.lemmas.Bool.{not-true, not_from_false}
use Rattle.roc_sequence.specs.Places.{is_listed, IsListed}
use Rattle.roc_sequence.proofs.Filtered.{from_listed_filter, listed_filter}
use Rattle.roc_sequence.proofs.Holds.{same_tests}
use Rattle.roc_sequence.proofs.Places.{listed_true}
use Rattle.roc_base.specs.declared.id.TxnId.{TxnId}
use Rattle.roc_base.specs.TxnId.{is_txn}
use Rattle.roc_base.specs.Equalities.{is_txn-true}
use Rattle.roc_depgraph.specs.declared.known.KnownList.{KnownList}
use Rattle.roc_depgraph.specs.Closure.{IsRisingListOf}
use Rattle.roc_depgraph.specs.Deps.{is_known, IsDecided}
use Rattle.roc_step.specs.Links.{without_links}
use Rattle.roc_step.proofs.ForgottenLinks.{decided_left, known_left, left_decided, left_known}

-- what is followed of what stays
abbrev pub links_left : (links : List KnownList) → (over : List TxnId) → List KnownList
links_left links over = map (without_links (is_listed is_txn over)) (filter (λ k. not (is_listed is_txn over k.of)) links)

-- of all others the lists are known as before
pub still_known : (links : List KnownList) (over : List TxnId) (t : TxnId) → is_listed is_txn over t ≡ false → is_known (links_left links over) t ≡ is_known links t
still_known links over t n =
    same_tests (is_known (links_left links over) t) (is_known links t)
    (λ e. (known_left (is_listed is_txn over) links t e).0)
    (λ e. left_known (is_listed is_txn over) links t e n)

module _ (links left : List KnownList) (over all : List TxnId) (left_is : left ≡ links_left links over) (decided : (t : TxnId) → IsListed is_txn all t → IsDecided links t) where
  abbrev forgotten : TxnId → Bool
  forgotten t = is_listed is_txn over t

  abbrev stays : TxnId → Bool
  stays t = not (forgotten t)

  -- the members that are not forgotten are decided by what is left
  some_decided : (t : TxnId) → IsListed is_txn (filter stays all) t → IsDecided left t
  some_decided t l =
      let p = from_listed_filter is_txn is_txn-true stays all t l in
      subst (λ ks. IsDecided ks t) (sym left_is) (decided_left forgotten links t (decided t p.1) (not-true (forgotten t) p.0))

  -- and where nothing else was, nothing else is
  module _ (all_of : (t : TxnId) → IsDecided links t → IsListed is_txn all t) (members : (t : TxnId) → IsListed is_txn over t → IsDecided links t) where
    decided_some : (t : TxnId) → IsDecided left t → IsListed is_txn (filter stays all) t
    decided_some t d =
        let p = left_decided forgotten links (λ u e. members u (listed_true is_txn over u e)) t (subst (λ ks. IsDecided ks t) left_is d) in
        listed_filter is_txn is_txn-true stays all t (not_from_false (forgotten t) p.1) (all_of t p.0)

    -- so a rising list of the ones is one of the others
    pub left_decide : (rising : List TxnId) → IsRisingListOf (IsListed is_txn (filter stays all)) rising → IsRisingListOf (IsDecided left) rising
    left_decide rising h = record { rising = h.rising; sound = λ t l. some_decided t (h.sound t l); complete = λ t d. h.complete t (decided_some t d) }
