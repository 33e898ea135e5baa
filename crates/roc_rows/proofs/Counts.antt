-- What is read of counts, and the counts that the entries of a table make
use Rattle.std.proofs.Common.{◌≡◌, ◌≢◌, ℕ, cond, ◌+◌, ◌-◌, ◌^◌, min, List, [], ◌∷◌, Some, unwrap_or, sym, ap, ◌∙◌}
use Rattle.std.specs.FinMap as map
use Rattle.std.specs.Map.{lookup}
use Rattle.roc_rows.specs.declared.cell.Cell.{Cell}
use Rattle.roc_rows.specs.Cells.{is_cell, cell_cmp}
use Rattle.roc_rows.specs.Versions.{Counts, version, unwritten, counted}
use Rattle.roc_rows.specs.Inner.Cells.{cell_cmp-total}
use Rattle.roc_rows.specs.Inner.Counted.{counts_of}
use Rattle.roc_rows.proofs.CellLaws.{is_cell-same, is_cell-ne, is_cell-swap, is_cell-by_cmp, cell_cmp-exact}

pub version-unwritten : (c : Cell) → version unwritten c ≡ 0
unfolding version unwritten
version-unwritten c = ap (λ o. unwrap_or o 0) (map.get-empty cell_cmp c)

get-put : (m : Counts) (c : Cell) (n : ℕ) (d : Cell) → map.get (map.insert m c n) d ≡ cond (is_cell c d) (Some n) (map.get m d)
get-put m c n d = map.get-insert cell_cmp-total m c n d ∙ ap (λ b. cond b (Some n) (map.get m d)) (is_cell-by_cmp d c ∙ is_cell-swap d c)

version-put_same : (m : Counts) (c : Cell) (n : ℕ) → version (map.insert m c n) c ≡ n
unfolding version
version-put_same m c n = ap (λ o. unwrap_or o 0) (get-put m c n c ∙ ap (λ b. cond b (Some n) (map.get m c)) (is_cell-same c))

version-put_other : (m : Counts) (c : Cell) (n : ℕ) (d : Cell) → c ≢ d → version (map.insert m c n) d ≡ version m d
unfolding version
version-put_other m c n d away = ap (λ o. unwrap_or o 0) (get-put m c n d ∙ ap (λ b. cond b (Some n) (map.get m d)) (is_cell-ne c d away))

pub version-counted_same : (m : Counts) (c : Cell) → version (counted m c) c ≡ min (version m c + 1) (2 ^ 64 - 1)
unfolding counted
version-counted_same m c = version-put_same m c (min (version m c + 1) (2 ^ 64 - 1))

pub version-counted_other : (m : Counts) (c d : Cell) → c ≢ d → version (counted m c) d ≡ version m d
unfolding counted
version-counted_other m c d away = version-put_other m c (min (version m c + 1) (2 ^ 64 - 1)) d away

-- ---- counts of lists

pub get-counts_of : (es : List (Cell × ℕ)) (c : Cell) → map.get (counts_of es) c ≡ lookup (is_cell c) es
unfolding counts_of unwritten
get-counts_of [] c = map.get-empty cell_cmp c
get-counts_of (e ∷ es) c =
    get-put (counts_of es) e.0 e.1 c ∙ ap (λ b. cond b (Some e.1) (map.get (counts_of es) c)) (is_cell-swap e.0 c) ∙ ap (λ o. cond (is_cell c e.0) (Some e.1) o) (get-counts_of es c)

pub version-counts_of : (es : List (Cell × ℕ)) (c : Cell) → version (counts_of es) c ≡ unwrap_or (lookup (is_cell c) es) 0
unfolding version
version-counts_of es c = ap (λ o. unwrap_or o 0) (get-counts_of es c)

pub counts_of-none : (es : List (Cell × ℕ)) → es ≡ [] → counts_of es ≡ unwritten
unfolding counts_of
counts_of-none es e = ap counts_of e

-- entries that are found alike make the same counts
pub counts_of-alike : (es fs : List (Cell × ℕ)) → ((c : Cell) → lookup (is_cell c) fs ≡ lookup (is_cell c) es) → counts_of fs ≡ counts_of es
counts_of-alike es fs h = map.same_map cell_cmp-total cell_cmp-exact _ _ (λ c. get-counts_of fs c ∙ h c ∙ sym (get-counts_of es c))

-- entries that differ in one cell
counts_of-put : (es fs : List (Cell × ℕ)) (c : Cell) (n : ℕ) → ((d : Cell) → lookup (is_cell d) fs ≡ cond (is_cell c d) (Some n) (lookup (is_cell d) es)) → counts_of fs ≡ map.insert (counts_of es) c n
counts_of-put es fs c n h = map.same_map cell_cmp-total cell_cmp-exact _ _ (λ d.
    get-counts_of fs d ∙ h d ∙ ap (λ o. cond (is_cell c d) (Some n) o) (sym (get-counts_of es d)) ∙ sym (get-put (counts_of es) c n d))

pub counts_of-counted : (es fs : List (Cell × ℕ)) (c : Cell) (n : ℕ) → n ≡ min (version (counts_of es) c + 1) (2 ^ 64 - 1)
    → ((d : Cell) → lookup (is_cell d) fs ≡ cond (is_cell c d) (Some n) (lookup (is_cell d) es)) → counts_of fs ≡ counted (counts_of es) c
unfolding counted
counts_of-counted es fs c n e h = counts_of-put es fs c n h ∙ ap (λ k. map.insert (counts_of es) c k) e
