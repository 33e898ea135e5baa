-- Records at the beginning of one file: one list of them goes on with the other.
use Rattle.std.proofs.Common.{◌≡◌, ◌⊎◌, inl, inr, ℕ, List, [], ◌∷◌, ◌++◌, length, drop, refl, sym, ◌∙◌, ap, subst, append_assoc}
use Rattle.std.proofs.lemmas.List.{drop_at, append-nil}
use Rattle.std.specs.List.{AllByRecursion}
use Rattle.roc_journal.specs.declared.record.Record.{Record}
use Rattle.roc_journal.specs.Format.{head, record_bytes, opened, IsRecordOf}
use Rattle.roc_journal.proofs.Beginnings.{SpelledApart, begin_alike}
use Rattle.roc_journal.proofs.Walks.{Ends, goes_on}

-- the second records are the first and more, and so is what stands behind the first
pub record GoesOn (rs ss : List Record) (left right : List ℕ) : Type 0 where
  pub more : List Record
  pub is : ss ≡ rs ++ more
  pub behind : left ≡ opened more ++ right

either_goes_on : SpelledApart → (tag : List ℕ) (rs ss : List Record) (left right : List ℕ) → AllByRecursion (IsRecordOf tag) rs → AllByRecursion (IsRecordOf tag) ss → opened rs ++ left ≡ opened ss ++ right
    → GoesOn rs ss left right ⊎ GoesOn ss rs right left
either_goes_on apart tag [] ss left right each_r each_s e = inl (record { more = ss; is = refl; behind = e })
either_goes_on apart tag (r ∷ rs) [] left right each_r each_s e = inr (record { more = r ∷ rs; is = refl; behind = sym e })
either_goes_on apart tag (r ∷ rs) (s ∷ ss) left right each_r each_s e =
    let here : record_bytes r ++ (opened rs ++ left) ≡ record_bytes s ++ (opened ss ++ right) =
    sym (append_assoc (record_bytes r) (opened rs) left) ∙ ap (λ (l : List ℕ). drop 1 l) e ∙ append_assoc (record_bytes s) (opened ss) right in
    let one = begin_alike apart tag r s _ _ each_r.0 each_s.0 here in
    elim (either_goes_on apart tag rs ss left right each_r.1 each_s.1 one.1) [
      | inl g ↦ inl (record { more = g.more; is = ap (λ x. x ∷ ss) (sym one.0) ∙ ap (λ xs. r ∷ xs) g.is; behind = g.behind })
      | inr g ↦ inr (record { more = g.more; is = ap (λ x. x ∷ rs) one.0 ∙ ap (λ xs. s ∷ xs) g.is; behind = g.behind })
    ]

-- of whole files
pub one_goes_on : SpelledApart → (tag bytes : List ℕ) (rs ss : List Record) (left right : List ℕ) → AllByRecursion (IsRecordOf tag) rs → AllByRecursion (IsRecordOf tag) ss
    → bytes ≡ head tag ++ opened rs ++ left → bytes ≡ head tag ++ opened ss ++ right → GoesOn rs ss left right ⊎ GoesOn ss rs right left
one_goes_on apart tag bytes rs ss left right each_r each_s is also =
    let strip : (us : List Record) (l : List ℕ) → bytes ≡ head tag ++ opened us ++ l → drop (length (head tag)) bytes ≡ opened us ++ l =
    λ us l e. ap (λ (m : List ℕ). drop (length (head tag)) m) (e ∙ append_assoc (head tag) (opened us) l) ∙ drop_at (head tag) (opened us ++ l) (length (head tag)) refl in
    either_goes_on apart tag rs ss left right each_r each_s (sym (strip rs left is) ∙ strip ss right also)

pub all_front : {A : Type 0} (P : A → Type 0) (xs ys : List A) → AllByRecursion P (xs ++ ys) → AllByRecursion P xs
all_front P [] ys each = tt
all_front P (x ∷ xs) ys each = (each.0, all_front P xs ys each.1)

all_behind : {A : Type 0} (P : A → Type 0) (xs ys : List A) → AllByRecursion P (xs ++ ys) → AllByRecursion P ys
all_behind P [] ys each = each
all_behind P (x ∷ xs) ys each = all_behind P xs ys each.1

-- behind where the records end none goes on
pub ended_here : (tag : List ℕ) (rs ss : List Record) (gate other : ℕ) (behind rest : List ℕ) → Ends tag gate behind → AllByRecursion (IsRecordOf tag) ss → GoesOn rs ss (gate ∷ behind) (other ∷ rest) → ss ≡ rs
ended_here tag rs ss gate other behind rest ends each g = go g.more g.is g.behind
  where
    go : (more : List Record) → ss ≡ rs ++ more → gate ∷ behind ≡ opened more ++ other ∷ rest → ss ≡ rs
    go [] is e = is ∙ append-nil rs
    go (m ∷ ms) is e = absurd (ends (goes_on tag m ms gate other behind rest (all_behind (IsRecordOf tag) rs (m ∷ ms) (subst (λ us. AllByRecursion (IsRecordOf tag) us) is each)).0 e))
