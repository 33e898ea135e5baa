-- What sets that are noted leave to undo
use Rattle.std.proofs.Common.{◌≡◌, ◌++◌, ◌∷◌, [], ℤ, List, refl, ap, ◌∙◌, Bool, true, false, if◌then◌else◌}
use Rattle.roc_rows.specs.declared.cell.Cell.{Cell}
use Rattle.roc_rows.specs.Cells.{is_cell}
use Rattle.roc_rows.specs.Store.{Store, read, write}
use Rattle.roc_rows.specs.Inner.Kept.{undone}
use Rattle.roc_rows.proofs.CellLaws.{is_cell-true}
use Rattle.roc_rows.proofs.Stored.{same_store, read-write}

pub undone-none : (ws : List (Cell × ℤ)) (s : Store) → ws ≡ [] → undone ws s ≡ s
unfolding undone
undone-none ws s e = ap (λ l. undone l s) e

-- the last is undone first
pub undone-last : (ws : List (Cell × ℤ)) (c : Cell) (v : ℤ) (s : Store) → undone (ws ++ (c, v) ∷ []) s ≡ undone ws (write s c v)
unfolding undone
undone-last [] c v s = refl
undone-last (w ∷ ws) c v s = ap (λ t. write t w.0 w.1) (undone-last ws c v s)

-- what a cell held is written again over another number
pub write-back : (s : Store) (c : Cell) (v : ℤ) → write (write s c v) c (read s c) ≡ s
write-back s c v = same_store _ _ (λ d. read-write (write s c v) c (read s c) d ∙ go d (is_cell c d) refl)
  where
    go : (d : Cell) (t : Bool) → is_cell c d ≡ t → (if t then read s c else read (write s c v) d) ≡ read s d
    go d true h = ap (read s) (is_cell-true c d h)
    go d false h = read-write s c v d ∙ ap (λ b. if b then v else read s d) h

-- so a set that is noted leaves what was there to go back to
pub undone-noted : (ws : List (Cell × ℤ)) (s : Store) (c : Cell) (v : ℤ) → undone (ws ++ (c, read s c) ∷ []) (write s c v) ≡ undone ws s
undone-noted ws s c v = undone-last ws c (read s c) (write s c v) ∙ ap (undone ws) (write-back s c v)
