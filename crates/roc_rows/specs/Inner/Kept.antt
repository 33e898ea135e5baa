-- How a store is kept: as a table of cells with their numbers
use Rattle.std.proofs.Common.{◌≢◌, ◌-◌, ◌/◌, ◌≤◌, min, ℕ, ℤ, pos, List, [], ◌∷◌, Option, Some, None, Vec, vec_len, vec_capacity, refl}
use Rattle.std.specs.declared.alloc.Global.{Global}
use Rattle.std.specs.Coded.{Coded, code_by, coded×, coded_ℕ, coded_option}
use Rattle.std.specs.Map.{lookup}
use Rattle.roc_rows.specs.declared.cell.Cell.{Cell}
use Rattle.roc_rows.specs.Cells.{is_cell}
use Rattle.roc_rows.specs.Store.{Store, empty, write}
use Rattle.roc_rows.specs.Held.{Held}
use Rattle.roc_rows.specs.Codes.{coded_store}

-- what a list of cells with their numbers holds: the first number of each cell
unfoldable pub store_of : List (Cell × ℤ) → Store
store_of [] = empty
store_of (e ∷ es) = write (store_of es) e.0 e.1

-- no cell has 0 in the list
abbrev pub HasNoZero : List (Cell × ℤ) → Type 0
HasNoZero es = (c : Cell) → lookup (is_cell c) es ≢ Some (pos 0)

-- what a table of numbers holds: the cells with their numbers, and how many more sets find room
pub record Numbered : Type 0 where
  pub store : Store
  pub spare : ℕ

-- as a pair
abbrev pub coded_numbered : Coded Numbered
coded_numbered = code_by (Store × ℕ) (coded× coded_store coded_ℕ) (λ h. (h.store, h.spare)) (λ p. record { store = p.0; spare = p.1 }) (λ _. refl)

-- ..and of cells with a savepoint
abbrev pub coded_held : Coded Held
coded_held =
    code_by (Store × (ℕ × Option Store)) (coded× coded_store (coded× coded_ℕ (coded_option coded_store))) (λ h. (h.store, (h.spare, h.saved)))
    (λ p. record { store = p.0; spare = p.1.0; saved = p.1.1 }) (λ _. refl)

-- the store before sets, of which each is noted with what its cell held before: the last is undone first
unfoldable pub undone : List (Cell × ℤ) → Store → Store
undone [] s = s
undone (w ∷ ws) s = write (undone ws s) w.0 w.1

-- how many more sets find room: beside what is noted, each takes a place in the notes and one in the table, and one more where it is undone
abbrev pub spare_beside : ℕ → Option (Vec (Cell × ℤ) Global) → ℕ
spare_beside spare None = spare
spare_beside spare (Some notes) = min ((spare - vec_len notes) / 2) (vec_capacity notes - vec_len notes)

abbrev pub saved_by : Store → Option (Vec (Cell × ℤ) Global) → Option Store
saved_by store None = None
saved_by store (Some notes) = Some (undone notes.items store)

-- there is room to undo what is noted
abbrev pub CanUndo : ℕ → Option (Vec (Cell × ℤ) Global) → Type 0
CanUndo spare None = Unit {0}
CanUndo spare (Some notes) = vec_len notes ≤ spare
