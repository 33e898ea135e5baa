-- Versions once writes are counted
use Rattle.std.proofs.Common.{◌≡◌, ◌≤◌, ◌+◌, ◌-◌, ◌^◌, ◌&&◌, ◌∷◌, min, suc, ℕ, Bool, true, false, cond, if◌then◌else◌, List, [], length, filter, refl, sym, ap, subst, ◌∙◌, arith}
use Rattle.roc_msg.specs.declared.outbox.Ran.{Ran}
use Rattle.roc_rows.specs.declared.cell.Cell.{Cell}
use Rattle.roc_rows.specs.Cells.{is_cell}
use Rattle.roc_rows.specs.Versions.{Counts, counted, version}
use Rattle.roc_rows.proofs.CellLaws.{is_cell-false, is_cell-true}
use Rattle.roc_rows.proofs.Counts.{version-counted_other, version-counted_same}
use Rattle.roc_step.specs.Reads.{with_access, with_accesses}

-- how often it was written
abbrev writes_to : Cell → List Ran → ℕ
writes_to c ran = length (filter (λ a. a.writes && is_cell a.cell c) ran)

-- one more write, and then n more, under a bound
one_more : (v n top : ℕ) → min (min (v + 1) top + n) top ≡ min (v + suc n) top
one_more v n top = omega arith

none_more : (v top : ℕ) → v ≤ top → v ≡ min (v + 0) top
none_more v top h = omega (arith, h)

within : (v top : ℕ) → min (v + 1) top ≤ top
within v top = omega arith

pub version-with_accesses : (m : Counts) (c : Cell) (ran : List Ran) → version m c ≤ 2 ^ 64 - 1 → version (with_accesses m ran) c ≡ min (version m c + writes_to c ran) (2 ^ 64 - 1)
version-with_accesses m c [] h = none_more (version m c) (2 ^ 64 - 1) h
version-with_accesses m c (a ∷ more) h = go a.writes refl (is_cell a.cell c) refl (λ m. version-with_accesses m c more)
  where
    rest : List Ran
    rest = filter (λ a. a.writes && is_cell a.cell c) more

    go : (w : Bool) → a.writes ≡ w → (s : Bool) → is_cell a.cell c ≡ s
        → ((m : Counts) → version m c ≤ 2 ^ 64 - 1 → version (with_accesses m more) c ≡ min (version m c + writes_to c more) (2 ^ 64 - 1))
        → version (with_accesses (with_access m a) more) c ≡ min (version m c + writes_to c (a ∷ more)) (2 ^ 64 - 1)
    go false e s f ih =
        ap (λ w. version (with_accesses (if w then counted m a.cell else m) more) c) e ∙ ih m h
        ∙ ap (λ w. min (version m c + length (cond (w && is_cell a.cell c) (a ∷ rest) rest)) (2 ^ 64 - 1)) (sym e)
    go true e false f ih =
        let same : version (counted m a.cell) c ≡ version m c = version-counted_other m a.cell c (is_cell-false a.cell c f) in
        ap (λ w. version (with_accesses (if w then counted m a.cell else m) more) c) e
        ∙ ih (counted m a.cell) (subst (λ v. v ≤ 2 ^ 64 - 1) (sym same) h)
        ∙ ap (λ v. min (v + writes_to c more) (2 ^ 64 - 1)) same
        ∙ (λ i. min (version m c + length (cond (sym e i && sym f i) (a ∷ rest) rest)) (2 ^ 64 - 1))
    go true e true f ih =
        let same : version (counted m a.cell) c ≡ min (version m c + 1) (2 ^ 64 - 1) = ap (λ x. version (counted m x) c) (is_cell-true a.cell c f) ∙ version-counted_same m c in
        ap (λ w. version (with_accesses (if w then counted m a.cell else m) more) c) e
        ∙ ih (counted m a.cell) (subst (λ v. v ≤ 2 ^ 64 - 1) (sym same) (within (version m c) (2 ^ 64 - 1)))
        ∙ ap (λ v. min (v + writes_to c more) (2 ^ 64 - 1)) same ∙ one_more (version m c) (writes_to c more) (2 ^ 64 - 1)
        ∙ (λ i. min (version m c + length (cond (sym e i && sym f i) (a ∷ rest) rest)) (2 ^ 64 - 1))

-- ---- one access after another

abbrev writes_in : List Ran → ℕ
writes_in ran = length (filter (λ a. a.writes) ran)

writes-cons : (a : Ran) (rest : List Ran) → writes_in (a ∷ rest) ≡ writes_in (a ∷ []) + writes_in rest
writes-cons a rest = go a.writes
  where
    go : (w : Bool) → length (cond w (a ∷ filter (λ a. a.writes) rest) (filter (λ a. a.writes) rest)) ≡ length (cond w (a ∷ []) []) + writes_in rest
    go true = omega arith
    go false = omega arith

pub rest_counted : (m n all : Counts) (a : Ran) (left rest : List Ran) → left ≡ a ∷ rest → n ≡ with_access m a → with_accesses m left ≡ all → with_accesses n rest ≡ all
rest_counted m n all a left rest is one counts = ap (λ c. with_accesses c rest) one ∙ ap (with_accesses m) (sym is) ∙ counts

pub rest_has_room : (s t : ℕ) (a : Ran) (left rest : List Ran) → left ≡ a ∷ rest → writes_in left ≤ s → s ≤ t + writes_in (a ∷ []) → writes_in rest ≤ t
rest_has_room s t a left rest is room spare =
    let both : writes_in left ≡ writes_in (a ∷ []) + writes_in rest = ap writes_in is ∙ writes-cons a rest in
    omega (arith, both, room, spare)

pub one_has_room : (s : ℕ) (a : Ran) (left rest : List Ran) → left ≡ a ∷ rest → writes_in left ≤ s → writes_in (a ∷ []) ≤ s
one_has_room s a left rest is room =
    let both : writes_in left ≡ writes_in (a ∷ []) + writes_in rest = ap writes_in is ∙ writes-cons a rest in
    omega (arith, both, room)
