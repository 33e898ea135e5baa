-- The store that the entries of a table make
use Rattle.std.proofs.Common.{◌≡◌, ◌≢◌, ℤ, pos, Bool, true, false, cond, if◌then◌else◌, List, Option, Some, unwrap_or, refl, sym, ap, ◌∙◌}
use Rattle.std.specs.Map.{lookup}
use Rattle.roc_rows.specs.declared.cell.Cell.{Cell}
use Rattle.roc_rows.specs.Cells.{is_cell}
use Rattle.roc_rows.specs.Store.{read, write}
use Rattle.roc_rows.proofs.Stored.{same_store, read-store_of, read-write}
use Rattle.roc_rows.specs.Inner.Kept.{store_of, HasNoZero}

-- entries that are found alike make one store
pub store_of-alike : (es fs : List (Cell × ℤ)) → ((c : Cell) → lookup (is_cell c) fs ≡ lookup (is_cell c) es) → store_of fs ≡ store_of es
store_of-alike es fs h = same_store _ _ (λ c. read-store_of fs c ∙ ap (λ o. unwrap_or o (pos 0)) (h c) ∙ sym (read-store_of es c))

-- entries that differ in one cell make the store after a write there
pub store_of-put : (es fs : List (Cell × ℤ)) (c : Cell) (o : Option ℤ) → ((d : Cell) → lookup (is_cell d) fs ≡ cond (is_cell c d) o (lookup (is_cell d) es)) → store_of fs ≡ write (store_of es) c (unwrap_or o (pos 0))
store_of-put es fs c o h = same_store _ _ (λ d.
    read-store_of fs d ∙ ap (λ p. unwrap_or p (pos 0)) (h d) ∙ go d (is_cell c d) ∙ sym (read-write (store_of es) c (unwrap_or o (pos 0)) d))
  where
    go : (d : Cell) (t : Bool) → unwrap_or (cond t o (lookup (is_cell d) es)) (pos 0) ≡ (if t then unwrap_or o (pos 0) else read (store_of es) d)
    go d true = refl
    go d false = sym (read-store_of es d)

pub HasNoZero-put : (es fs : List (Cell × ℤ)) (c : Cell) (o : Option ℤ) → o ≢ Some (pos 0) → HasNoZero es → ((d : Cell) → lookup (is_cell d) fs ≡ cond (is_cell c d) o (lookup (is_cell d) es)) → HasNoZero fs
HasNoZero-put es fs c o n none h d e = go (is_cell c d) (sym (h d) ∙ e)
  where
    go : (t : Bool) → cond t o (lookup (is_cell d) es) ≢ Some (pos 0)
    go true = n
    go false = none d
