-- The transactions of rows that are marked as decided
use Rattle.std.proofs.Common.{◌≡◌, ◌<◌, ◌≤◌, ℕ, zero, suc, Bool, true, false, cond, List, [], ◌∷◌, length, Some, None, inl, inr, refl, sym, ap, ◌∙◌, subst, arith}
use Rattle.std.proofs.lemmas.Bool.{false≢true}
use Rattle.std.proofs.lemmas.Bool.Decides.{nat_tests}
use Rattle.std.proofs.lemmas.List.{get_or_past}
use Rattle.std.specs.Prelude.{nat_lt}
use Rattle.std.specs.Map.{lookup}
use Rattle.roc_sequence.specs.Lists.{Has}
use Rattle.roc_sequence.specs.Places.{IsListed, is_listed}
use Rattle.roc_sequence.proofs.Holds.{same_tests}
use Rattle.roc_sequence.proofs.Places.{listed_test, listed_true}
use Rattle.roc_base.specs.declared.id.TxnId.{TxnId}
use Rattle.roc_base.specs.TxnId.{is_txn}
use Rattle.roc_depgraph.proofs.Listed.{has_listed, listed_has}
use Rattle.roc_server_rows.specs.declared.rows.Row.{Row}
use Rattle.roc_server_rows.specs.declared.marks.Mark.{Mark}
use Rattle.roc_server_rows.specs.Rows.{row_in, IsRowTable}
use Rattle.roc_server_rows.specs.Marks.{no_mark, mark_in, AreMarked}
use Rattle.roc_server_table.specs.Inner.Kept.{decided_of}
use Rattle.roc_server_rows.proofs.Alive.{row_within, told_live}

-- ---- by number

-- what is marked as decided has a mark
pub mark_within : (ms : List Mark) (n : ℕ) → (mark_in ms n).decided ≡ true → n < length ms
mark_within ms n d = go (nat_lt n (length ms)) refl
  where
    go : (b : Bool) → nat_lt n (length ms) ≡ b → n < length ms
    go true e = grind (arith, nat_tests)
    go false e =
        let past : length ms ≤ n = grind (arith, nat_tests) in
        absurd (false≢true (sym (ap (λ (m : Mark). m.decided) (get_or_past ms n no_mark past)) ∙ d))

has_decided : (rows : List Row) (marks : List Mark) (t : TxnId) → Has t (decided_of rows marks) → (n : ℕ) × (n < length rows) × ((mark_in marks n).decided ≡ true) × ((row_in rows n).id ≡ t)
has_decided [] marks t h = absurd h
has_decided (r ∷ rs) [] t h = absurd h
has_decided (r ∷ rs) (m ∷ ms) t h = go m.decided refl h (has_decided rs ms t)
  where
    go : (b : Bool) → m.decided ≡ b → Has t (cond b (r.id ∷ decided_of rs ms) (decided_of rs ms))
        → (Has t (decided_of rs ms) → (n : ℕ) × (n < length rs) × ((mark_in ms n).decided ≡ true) × ((row_in rs n).id ≡ t))
        → (n : ℕ) × (n < length (r ∷ rs)) × ((mark_in (m ∷ ms) n).decided ≡ true) × ((row_in (r ∷ rs) n).id ≡ t)
    go true e (inl z) ih = (zero, omega arith, e, sym z)
    go true e (inr k) ih = let w = ih k in (suc w.0, omega (arith, w.1), w.2, w.3)
    go false e k ih = let w = ih k in (suc w.0, omega (arith, w.1), w.2, w.3)

decided_has : (rows : List Row) (marks : List Mark) (n : ℕ) → n < length rows → (mark_in marks n).decided ≡ true → Has (row_in rows n).id (decided_of rows marks)
decided_has [] marks n h d = absurd (omega arith)
decided_has (r ∷ rs) [] n h d = absurd (false≢true d)
decided_has (r ∷ rs) (m ∷ ms) zero h d = subst (λ (b : Bool). Has r.id (cond b (r.id ∷ decided_of rs ms) (decided_of rs ms))) (sym d) (inl refl)
decided_has (r ∷ rs) (m ∷ ms) (suc n) h d = go m.decided (decided_has rs ms n (omega arith) d)
  where
    go : (b : Bool) → Has (row_in rs n).id (decided_of rs ms) → Has (row_in rs n).id (cond b (r.id ∷ decided_of rs ms) (decided_of rs ms))
    go true k = inr k
    go false k = k

-- ---- the same are decided, and their rows are of the same transactions

none_decided : (rows : List Row) (marks : List Mark) → ((n : ℕ) → (mark_in marks n).decided ≡ false) → decided_of rows marks ≡ []
none_decided [] marks none = refl
none_decided (r ∷ rs) [] none = refl
none_decided (r ∷ rs) (m ∷ ms) none = ap (λ b. cond b (r.id ∷ decided_of rs ms) (decided_of rs ms)) (none zero) ∙ none_decided rs ms (λ n. none (suc n))

abbrev StaysDecided : (old new : List Row) → List Mark → Type 0
StaysDecided old new marks = (n : ℕ) → (mark_in marks n).decided ≡ true → ((row_in new n).id ≡ (row_in old n).id) × (n < length old) × (n < length new)

-- none is, where no row is there
beyond : (marks : List Mark) (len : ℕ) → len ≡ 0 → ((n : ℕ) → (mark_in marks n).decided ≡ true → n < len) → (n : ℕ) → (mark_in marks n).decided ≡ false
beyond marks len z within n = go (mark_in marks n).decided refl
  where
    go : (b : Bool) → (mark_in marks n).decided ≡ b → b ≡ false
    go true e = let l = within n e in absurd (omega (arith, l, z))
    go false e = refl

pub decided_same : (old new : List Row) (ms ns : List Mark) → ((n : ℕ) → (mark_in ns n).decided ≡ (mark_in ms n).decided) → StaysDecided old new ms → decided_of new ns ≡ decided_of old ms
decided_same old new [] ns same at = none_decided new ns (λ n. same n) ∙ sym (none_decided old [] (λ n. refl))
decided_same old new (m ∷ ms) [] same at = none_decided new [] (λ n. refl) ∙ sym (none_decided old (m ∷ ms) (λ n. sym (same n)))
decided_same [] new (m ∷ ms) (k ∷ ks) same at = none_decided new (k ∷ ks) (λ n. same n ∙ beyond (m ∷ ms) 0 refl (λ j d. (at j d).1) n)
decided_same (r ∷ rs) [] (m ∷ ms) (k ∷ ks) same at = sym (none_decided (r ∷ rs) (m ∷ ms) (beyond (m ∷ ms) 0 refl (λ j d. (at j d).2)))
decided_same (r ∷ rs) (s ∷ ss) (m ∷ ms) (k ∷ ks) same at =
    go m.decided k.decided refl (same zero) (decided_same rs ss ms ks (λ n. same (suc n)) (λ n d. let w = at (suc n) d in (w.0, omega (arith, w.1), omega (arith, w.2))))
  where
    go : (b c : Bool) → m.decided ≡ b → c ≡ b → decided_of ss ks ≡ decided_of rs ms → cond c (s.id ∷ decided_of ss ks) (decided_of ss ks) ≡ cond b (r.id ∷ decided_of rs ms) (decided_of rs ms)
    go true true d e rest = λ i. (at zero d).0 i ∷ rest i
    go true false d e rest = absurd (false≢true e)
    go false true d e rest = absurd (false≢true (sym e))
    go false false d e rest = rest

-- ---- by transaction

module _ (numbers : List (TxnId × ℕ)) (rows : List Row) (stamp : ℕ) (t : IsRowTable numbers rows stamp) (marks : List Mark) (a : AreMarked rows marks) where
  abbrev ids : List TxnId
  ids = decided_of rows marks

  pub decided_live : (n : ℕ) → (mark_in marks n).decided ≡ true → 0 < (row_in rows n).birth
  decided_live n d = told_live numbers rows stamp t n (a.decided_told n d)

  pub decided_within : (n : ℕ) → (mark_in marks n).decided ≡ true → n < length rows
  decided_within n d = row_within rows n (decided_live n d)

  pub decided_listed : (n : ℕ) → (mark_in marks n).decided ≡ true → IsListed is_txn ids (row_in rows n).id
  decided_listed n d = has_listed ids (row_in rows n).id (decided_has rows marks n (decided_within n d) d)

  pub listed_decided : (q : TxnId) → IsListed is_txn ids q → (n : ℕ) × (lookup (is_txn q) numbers ≡ Some n) × ((mark_in marks n).decided ≡ true)
  listed_decided q l =
      let w = has_decided rows marks q (listed_has ids q l) in
      (w.0, ap (λ p. lookup (is_txn p) numbers) (sym w.3) ∙ t.each w.0 (decided_live w.0 w.2), w.2)

  pub decided_at : (q : TxnId) (n : ℕ) → lookup (is_txn q) numbers ≡ Some n → is_listed is_txn ids q ≡ (mark_in marks n).decided
  decided_at q n here =
      same_tests (is_listed is_txn ids q) (mark_in marks n).decided
      (λ e.
      let w = listed_decided q (listed_true is_txn ids q e) in
      let two : Some w.0 ≡ Some n = sym w.1 ∙ here in
      let one : w.0 ≡ n = cc in
      ap (λ j. (mark_in marks j).decided) (sym one) ∙ w.2)
      (λ d. listed_test is_txn ids q (subst (IsListed is_txn ids) (t.found q n here).is (decided_listed n d)))

  pub decided_none : (q : TxnId) → lookup (is_txn q) numbers ≡ None → is_listed is_txn ids q ≡ false
  decided_none q absent = go (is_listed is_txn ids q) refl
    where
      go : (b : Bool) → is_listed is_txn ids q ≡ b → b ≡ false
      go true e =
          let w = listed_decided q (listed_true is_txn ids q e) in
          let no : None ≡ Some w.0 = sym absent ∙ w.1 in
          absurd (cc)
      go false e = refl
