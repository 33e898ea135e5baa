-- What known lists say of what comes before members
use Rattle.std.proofs.Common.{◌≡◌, ◌&&◌, not, true, List, [], ◌∷◌, filter, refl, sym, ◌∙◌, subst, inl, inr, arith}
use Rattle.std.proofs.lemmas.Bool.{false≢true, and_parts, and_from, not-true, not_from_false, false_from_ne_true}
use Rattle.std.specs.List.{list_any}
use Rattle.roc_sequence.specs.Lists.{Has}
use Rattle.roc_sequence.specs.Places.{IsListed, is_listed}
use Rattle.roc_sequence.proofs.Holds.{any_has, has_any}
use Rattle.roc_sequence.proofs.Members.{has_filter, from_has_filter}
use Rattle.roc_sequence.proofs.Places.{listed_true, listed_test}
use Rattle.roc_sequence.proofs.Filtered.{listed_filter, from_listed_filter}
use Rattle.roc_sequence.proofs.Appended.{listed_front, listed_behind, listed_either}
use Rattle.roc_base.specs.declared.id.TxnId.{TxnId}
use Rattle.roc_base.specs.TxnId.{is_txn}
use Rattle.roc_base.specs.Edge.{Dependency}
use Rattle.roc_base.specs.Equalities.{is_txn-true, is_txn-same}
use Rattle.roc_depgraph.specs.declared.known.KnownList.{KnownList}
use Rattle.roc_depgraph.specs.Deps.{entries_of, Precedes, PrecedesNow}
use Rattle.roc_depgraph.proofs.Listed.{has_under, under_has, has_listed, listed_has}
use Rattle.roc_component.specs.Inner.Before.{from_ids, now_among, outside, leading_to}

-- the ids of entries
pub listed_ids : (es : List Dependency) (u : TxnId) → list_any (λ d. is_txn d.from u) es ≡ true → IsListed is_txn (from_ids es) u
listed_ids es u h =
    let d = any_has (λ (d : Dependency). is_txn d.from u) es h in
    subst (IsListed is_txn (from_ids es)) (is_txn-true d.0.from u d.2) (under_has (λ d. d.from) es d.0 d.1)

pub from_listed_ids : (es : List Dependency) (u : TxnId) → IsListed is_txn (from_ids es) u → list_any (λ d. is_txn d.from u) es ≡ true
from_listed_ids es u h =
    let d = has_under (λ (d : Dependency). d.from) es u h in
    has_any (λ d. is_txn d.from u) es d.0 d.1 (subst (λ v. is_txn v u ≡ true) (sym d.2) (is_txn-same u))

module _ (known : List KnownList) (c : List TxnId) where
  -- the immediate ones among c
  pub listed_now : (t u : TxnId) → IsListed is_txn c u → PrecedesNow known u t → IsListed is_txn (now_among c (entries_of known t)) u
  listed_now t u l h =
      let es = entries_of known t in
      let d = any_has (λ (d : Dependency). is_txn d.from u && d.imm) es h in
      let q = and_parts (is_txn d.0.from u) d.0.imm d.2 in
      let e = is_txn-true d.0.from u q.0 in
      let f = has_filter (λ d. is_listed is_txn c d.from) d.0 es d.1 (subst (λ v. is_listed is_txn c v ≡ true) (sym e) (listed_test is_txn c u l)) in
      let g = has_filter (λ (d : Dependency). d.imm) d.0 (filter (λ d. is_listed is_txn c d.from) es) f q.1 in
      subst (IsListed is_txn (now_among c es)) e (under_has (λ d. d.from) (filter (λ d. d.imm) (filter (λ d. is_listed is_txn c d.from) es)) d.0 g)

  pub from_listed_now : (t u : TxnId) → IsListed is_txn (now_among c (entries_of known t)) u → IsListed is_txn c u × PrecedesNow known u t
  from_listed_now t u h =
      let es = entries_of known t in
      let d = has_under (λ (d : Dependency). d.from) (filter (λ d. d.imm) (filter (λ d. is_listed is_txn c d.from) es)) u h in
      let f = from_has_filter (λ (d : Dependency). d.imm) d.0 (filter (λ d. is_listed is_txn c d.from) es) d.1 in
      let g = from_has_filter (λ (d : Dependency). is_listed is_txn c d.from) d.0 es f.0 in (
        subst (IsListed is_txn c) d.2 (listed_true is_txn c d.0.from g.1),
        has_any (λ d. is_txn d.from u && d.imm) es d.0 g.0 (and_from (is_txn d.0.from u) d.0.imm (subst (λ v. is_txn v u ≡ true) (sym d.2) (is_txn-same u)) f.1),
      )

  -- what leads to some ids from outside c
  abbrev is_out : TxnId → Type 0
  is_out u = ¬ IsListed is_txn c u

  listed_outside : (us : List TxnId) (u : TxnId) → IsListed is_txn us u → is_out u → IsListed is_txn (outside c us) u
  listed_outside us u h n = listed_filter is_txn is_txn-true (λ v. not (is_listed is_txn c v)) us u (not_from_false (is_listed is_txn c u) (false_from_ne_true (is_listed is_txn c u) (λ e. n (listed_true is_txn c u e)))) h

  from_listed_outside : (us : List TxnId) (u : TxnId) → IsListed is_txn (outside c us) u → is_out u × IsListed is_txn us u
  from_listed_outside us u h =
      let f = from_listed_filter is_txn is_txn-true (λ v. not (is_listed is_txn c v)) us u h in
      (λ l. false≢true (sym (not-true (is_listed is_txn c u) f.0) ∙ listed_test is_txn c u l), f.1)

  pub listed_leading : (some : List TxnId) (t u : TxnId) → Has t some → Precedes known u t → is_out u → IsListed is_txn (leading_to known c some) u
  listed_leading [] t u h p n = absurd h
  listed_leading (x ∷ some) t u (inl e) p n =
      listed_front is_txn (outside c (from_ids (entries_of known x))) (leading_to known c some) u
      (listed_outside (from_ids (entries_of known x)) u (listed_ids (entries_of known x) u (subst (Precedes known u) e p)) n)
  listed_leading (x ∷ some) t u (inr h) p n = listed_behind is_txn (outside c (from_ids (entries_of known x))) (leading_to known c some) u (listed_leading some t u h p n)

  pub from_listed_leading : (some : List TxnId) (u : TxnId) → IsListed is_txn (leading_to known c some) u → is_out u × ((t : TxnId) × Has t some × Precedes known u t)
  from_listed_leading [] u h = absurd (omega arith)
  from_listed_leading (x ∷ some) u h =
      elim (listed_either is_txn (outside c (from_ids (entries_of known x))) (leading_to known c some) u h) [
        | inl k ↦ (let f = from_listed_outside (from_ids (entries_of known x)) u k in (f.0, (x, inl refl, from_listed_ids (entries_of known x) u f.1)))
        | inr k ↦ (let f = from_listed_leading some u k.1 in (f.0, (f.1.0, inr f.1.1, f.1.2)))
      ]

-- what is looked at before a member are its predecessors
pub todo_are : (known : List KnownList) (t : TxnId) (ids : List TxnId) → ids ≡ from_ids (entries_of known t) → (u : TxnId) → (Has u ids → Precedes known u t) × (Precedes known u t → Has u ids)
todo_are known t ids e u = (
  λ h. from_listed_ids (entries_of known t) u (has_listed (from_ids (entries_of known t)) u (subst (Has u) e h)),
  λ p. subst (Has u) (sym e) (listed_has (from_ids (entries_of known t)) u (listed_ids (entries_of known t) u p)),
)
