-- A table of cells behind an access, and pairs as the accesses are taken
use Rattle.std.proofs.Common.{◌≡◌, ℕ, ◌+◌, ◌<◌, Bool, true, false, cond, if◌then◌else◌, List, ◌∷◌, ◌++◌, Some, filter, length, get_or, drop, refl, sym, ap, ◌∙◌, append_assoc}
use Rattle.std.specs.Map.{lookup}
use Rattle.std.specs.Ordering.{is_eq}
use Rattle.roc_rows.specs.declared.cell.Cell.{Cell}
use Rattle.roc_rows.specs.Cells.{is_cell, cell_cmp}
use Rattle.roc_rows.proofs.CellLaws.{is_cell-by_cmp, is_cell-true}
use Rattle.roc_sequence.proofs.Fronts.{rest_at}
use Rattle.roc_msg.specs.declared.outbox.Ran.{Ran}
use Rattle.roc_precedence.specs.declared.pair.Pair.{Pair}
use Rattle.roc_judge.specs.declared.uses.Since.{Since}
use Rattle.roc_judge.specs.Inner.Uses.{Last, last_of, last_found, last_in, last_after, step, walk, pairs_for}

pub set_last : (access : Ran) (es fs : List (Cell × Since)) (value : Since)
    → ((q : Cell) → lookup (λ k. is_eq (cell_cmp q k)) fs ≡ cond (is_eq (cell_cmp access.cell q)) (Some value) (lookup (λ k. is_eq (cell_cmp q k)) es))
    → last_of value ≡ last_after access.writes access.id (last_in es access.cell)
    → (c : Cell) → last_in fs c ≡ step (last_in es) access c
set_last access es fs value at is c =
    ap last_found (at c) ∙ ap (λ (t : Bool). last_found (cond t (Some value) (lookup (λ k. is_eq (cell_cmp c k)) es))) (is_cell-by_cmp access.cell c) ∙ go (is_cell access.cell c) refl
  where
    go : (t : Bool) → is_cell access.cell c ≡ t → last_found (cond t (Some value) (lookup (λ k. is_eq (cell_cmp c k)) es))
        ≡ (if t then last_after access.writes access.id (last_in es c) else last_in es c)
    go true e = is ∙ ap (λ (d : Cell). last_after access.writes access.id (last_in es d)) (is_cell-true access.cell c e)
    go false e = refl

pub rest_is : {A : Type 0} (xs : List A) (i : ℕ) (x : A) → x ≡ get_or xs i x → i < length xs → drop i xs ≡ x ∷ drop (i + 1) xs
rest_is xs i x e h = rest_at xs i x h ∙ ap (λ y. y ∷ drop (i + 1) xs) (sym e)

pub walk_taken : (test : Ran → Bool) (at new : Cell → Last) (x : Ran) (left rest ws : List Ran) (pairs more total : List Pair)
    → left ≡ x ∷ rest → test x ≡ true → ((c : Cell) → new c ≡ step at x c) → more ≡ pairs ++ pairs_for (at x.cell) x
    → pairs ++ walk at (filter test left) ws ≡ total → more ++ walk new (filter test rest) ws ≡ total
walk_taken test at new x left rest ws pairs more total l e h m k =
    ap (λ (st : Cell → Last). more ++ walk st (filter test rest) ws) (λ i c. h c i)
    ∙ (ap (λ ps. ps ++ walk (step at x) (filter test rest) ws) m
    ∙ (append_assoc pairs (pairs_for (at x.cell) x) (walk (step at x) (filter test rest) ws)
    ∙ (ap (λ t. pairs ++ walk at (cond t (x ∷ filter test rest) (filter test rest)) ws) (sym e)
    ∙ (ap (λ xs. pairs ++ walk at (filter test xs) ws) (sym l) ∙ k))))

pub walk_passed : (test : Ran → Bool) (at : Cell → Last) (x : Ran) (left rest ws : List Ran) (pairs total : List Pair)
    → left ≡ x ∷ rest → test x ≡ false
    → pairs ++ walk at (filter test left) ws ≡ total → pairs ++ walk at (filter test rest) ws ≡ total
walk_passed test at x left rest ws pairs total l e k =
    ap (λ t. pairs ++ walk at (cond t (x ∷ filter test rest) (filter test rest)) ws) (sym e)
    ∙ (ap (λ xs. pairs ++ walk at (filter test xs) ws) (sym l) ∙ k)
