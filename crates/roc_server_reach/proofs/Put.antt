-- A rising list with the members of another
use Rattle.std.proofs.Common.{◌≡◌, true, List, [], ◌∷◌, ◌⊎◌, sym, subst, inl, inr}
use Rattle.std.specs.List.Sorted.{IsStrictlySortedBy}
use Rattle.roc_sequence.specs.Places.{IsListed}
use Rattle.roc_base.specs.declared.id.TxnId.{TxnId}
use Rattle.roc_base.specs.TxnId.{is_txn, txn_cmp, txn_lt}
use Rattle.roc_base.proofs.Ids.{txn_lt-trans, txn_cases, none_rise}
use Rattle.roc_depgraph.specs.Closure.{IsRisingListOf}
use Rattle.roc_depgraph.proofs.Listed.{listed_one, in_one}
use Rattle.roc_depgraph.proofs.RisingLists.{none_listed}
use Rattle.roc_server_reach.proofs.Rises.{rises, first_before, rest_rises, first_or_rest, in_first, in_rest}

-- a rising list with one more, in its place
record IsPut (a : TxnId) (xs : List TxnId) : Type 0 where
  ids : List TxnId
  rising : IsStrictlySortedBy txn_cmp ids
  here : IsListed is_txn ids a
  there : (u : TxnId) → IsListed is_txn xs u → IsListed is_txn ids u
  only : (u : TxnId) → IsListed is_txn ids u → (u ≡ a) ⊎ IsListed is_txn xs u

put : (a : TxnId) (xs : List TxnId) → IsStrictlySortedBy txn_cmp xs → IsPut a xs
put a [] r =
    record {
      ids = a ∷ [];
      rising = rises a [] r (λ u l. absurd (none_listed u l));
      here = in_one a;
      there = λ u l. absurd (none_listed u l);
      only = λ u l. inl (listed_one a u l);
    }
put a (x ∷ xs) r = go (put a xs (rest_rises x xs r)) (txn_cases a x)
  where
    go : IsPut a xs → (txn_lt a x ≡ true) ⊎ ((a ≡ x) ⊎ (txn_lt x a ≡ true)) → IsPut a (x ∷ xs)
    go p (inl first) =
        record {
          ids = a ∷ x ∷ xs;
          rising = rises a (x ∷ xs) r (λ u l. elim (first_or_rest x xs u l) [ inl e ↦ subst (λ v. txn_lt a v ≡ true) (sym e) first | inr k ↦ txn_lt-trans a x u first (first_before x xs r u k) ]);
          here = in_first a (x ∷ xs);
          there = λ u l. in_rest a (x ∷ xs) u l;
          only = λ u l. first_or_rest a (x ∷ xs) u l;
        }
    go p (inr (inl same)) =
        record {
          ids = x ∷ xs;
          rising = r;
          here = subst (IsListed is_txn (x ∷ xs)) (sym same) (in_first x xs);
          there = λ u l. l;
          only = λ u l. inr l;
        }
    go p (inr (inr behind)) =
        record {
          ids = x ∷ p.ids;
          rising = rises x p.ids p.rising (λ u l. elim (p.only u l) [ inl e ↦ subst (λ v. txn_lt x v ≡ true) (sym e) behind | inr k ↦ first_before x xs r u k ]);
          here = in_rest x p.ids a p.here;
          there = λ u l. elim (first_or_rest x xs u l) [ inl e ↦ subst (IsListed is_txn (x ∷ p.ids)) (sym e) (in_first x p.ids) | inr k ↦ in_rest x p.ids u (p.there u k) ];
          only = λ u l. elim (first_or_rest x p.ids u l) [
            | inl e ↦ inr (subst (IsListed is_txn (x ∷ xs)) (sym e) (in_first x xs))
            | inr k ↦ elim (p.only u k) [ inl e ↦ inl e | inr m ↦ inr (in_rest x xs u m) ]
          ];
        }

-- there is a rising list with the members of any list
pub record HasRising (xs : List TxnId) : Type 0 where
  pub ids : List TxnId
  pub members : IsRisingListOf (IsListed is_txn xs) ids

pub has_rising : (xs : List TxnId) → HasRising xs
has_rising [] = record { ids = []; members = record { rising = none_rise; sound = λ u l. l; complete = λ u l. l } }
has_rising (x ∷ xs) =
    let more = has_rising xs in
    let p = put x more.ids more.members.rising in
    record {
      ids = p.ids;
      members = record {
        rising = p.rising;
        sound = λ u l. elim (p.only u l) [ inl e ↦ subst (IsListed is_txn (x ∷ xs)) (sym e) (in_first x xs) | inr k ↦ in_rest x xs u (more.members.sound u k) ];
        complete = λ u l. elim (first_or_rest x xs u l) [ inl e ↦ subst (IsListed is_txn p.ids) (sym e) p.here | inr k ↦ p.there u (more.members.complete u k) ];
      };
    }
