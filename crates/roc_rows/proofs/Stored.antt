-- What is read of a store
use Rattle.std.proofs.Common.{◌≡◌, ◌≢◌, ℤ, pos, Bool, true, false, if◌then◌else◌, List, [], ◌∷◌, Option, Some, None, unwrap_or, refl, sym, ap, ◌∙◌}
use Rattle.std.specs.FinMap as map
use Rattle.std.specs.Map.{lookup}
use Rattle.roc_rows.specs.declared.cell.Cell.{Cell}
use Rattle.roc_rows.specs.Cells.{is_cell, cell_cmp}
use Rattle.roc_rows.specs.Store.{Store, read, entries, empty, write}
use Rattle.roc_rows.proofs.CellLaws.{is_cell-same, is_cell-ne, is_cell-swap, is_cell-by_cmp, cell_cmp-exact}
use Rattle.roc_rows.specs.Inner.Cells.{cell_cmp-total}
use Rattle.roc_rows.specs.Inner.Kept.{store_of, HasNoZero}
use Rattle.roc_rows.specs.Codes.{same_numbers}
use Rattle.roc_rows.specs.Inner.Writes.{kept, same_option, unwrap_or-kept, get-written}

-- two stores that read alike are one
pub same_store : (s t : Store) → ((c : Cell) → read s c ≡ read t c) → s ≡ t
unfolding read
same_store s t h = same_numbers s t (map.same_map cell_cmp-total cell_cmp-exact s.numbers t.numbers (λ c. same_option _ _ (s.no_zero c) (t.no_zero c) (h c)))

pub read-empty : (c : Cell) → read empty c ≡ pos 0
unfolding read empty
read-empty c = ap (λ o. unwrap_or o (pos 0)) (map.get-empty cell_cmp c)

-- a read after a write
pub read-write : (s : Store) (c : Cell) (v : ℤ) (d : Cell) → read (write s c v) d ≡ (if is_cell c d then v else read s d)
unfolding read write
read-write s c v d =
    ap (λ o. unwrap_or o (pos 0)) (get-written s.numbers c v d ∙ ap (λ b. if b then kept v else map.get s.numbers d) (is_cell-by_cmp d c ∙ is_cell-swap d c))
    ∙ go (is_cell c d)
  where
    go : (t : Bool) → unwrap_or (if t then kept v else map.get s.numbers d) (pos 0) ≡ (if t then v else unwrap_or (map.get s.numbers d) (pos 0))
    go true = unwrap_or-kept v
    go false = refl

-- ..in the same cell
pub read-write_same : (s : Store) (c : Cell) (v : ℤ) → read (write s c v) c ≡ v
read-write_same s c v = read-write s c v c ∙ ap (λ b. if b then v else read s c) (is_cell-same c)

-- ..in another cell
pub read-write_other : (s : Store) (c : Cell) (v : ℤ) (d : Cell) → c ≢ d → read (write s c v) d ≡ read s d
read-write_other s c v d n = read-write s c v d ∙ ap (λ b. if b then v else read s d) (is_cell-ne c d n)

-- ---- stores of lists

pub read-store_of : (es : List (Cell × ℤ)) (c : Cell) → read (store_of es) c ≡ unwrap_or (lookup (is_cell c) es) (pos 0)
unfolding store_of
read-store_of [] c = read-empty c
read-store_of (e ∷ es) c =
    read-write (store_of es) e.0 e.1 c ∙ ap (λ b. if b then e.1 else read (store_of es) c) (is_cell-swap e.0 c) ∙ go (is_cell c e.0) (read-store_of es c)
  where
    go : (t : Bool) → read (store_of es) c ≡ unwrap_or (lookup (is_cell c) es) (pos 0) → (if t then e.1 else read (store_of es) c) ≡ unwrap_or (if t then Some e.1 else lookup (is_cell c) es) (pos 0)
    go true rest = refl
    go false rest = rest

pub store_of-none : (es : List (Cell × ℤ)) → es ≡ [] → store_of es ≡ empty
unfolding store_of
store_of-none es e = ap store_of e

-- what the map of such a store has, where no cell has 0 in the list
pub numbers-store_of : (es : List (Cell × ℤ)) → HasNoZero es → (c : Cell) → map.get (store_of es).numbers c ≡ lookup (is_cell c) es
unfolding read
numbers-store_of es none c = same_option _ _ ((store_of es).no_zero c) (none c) (read-store_of es c)

pub entries-numbers : (s : Store) → map.entries s.numbers ≡ entries s
unfolding entries
entries-numbers s = refl

-- a cell that is not 0 is in the map with its number
pub numbers-read : (s : Store) (c : Cell) (v : ℤ) → (v ≢ pos 0) → read s c ≡ v → map.get s.numbers c ≡ Some v
unfolding read
numbers-read s c v n h = go (map.get s.numbers c) h
  where
    go : (o : Option ℤ) → unwrap_or o (pos 0) ≡ v → o ≡ Some v
    go None e = absurd (n (sym e))
    go (Some x) e = ap Some e

pub read-numbers : (s : Store) (c : Cell) (v : ℤ) → map.get s.numbers c ≡ Some v → read s c ≡ v
unfolding read
read-numbers s c v h = ap (λ o. unwrap_or o (pos 0)) h
