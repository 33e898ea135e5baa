-- Marks on pieces, by procedure and number: what is marked is read as whether it is immediate
use Rattle.std.specs.Prelude.{◌≡◌, ℕ, suc, ◌+◌, Bool, false, not, ◌&&◌, ◌||◌, ◌<◌, IsTrue, List, [], ◌∷◌, ◌⊎◌, slice_index_or, if◌then◌else◌}
use Rattle.roc_program.specs.Program.{Workload}
use Rattle.roc_program.specs.Pieces.{piece_of}
use Rattle.roc_program.specs.declared.piece_id.PieceId.{PieceId}
use Rattle.roc_conflict.specs.Classes.{is_immediate}

-- a place of a row is marked
abbrev pub is_held : List Bool → ℕ → Bool
is_held row piece = slice_index_or row piece false

-- the place of these numbers is marked
abbrev pub is_marked_at : List (List Bool) → (proc piece : ℕ) → Bool
is_marked_at marks proc piece = is_held (slice_index_or marks proc []) piece

-- a piece is declared `now` or promoted, and was not taken
abbrev pub is_due : Workload → (is_promoted : PieceId → Bool) → (taken : List (List Bool)) → PieceId → Bool
is_due program is_promoted taken id = not (is_immediate taken id) && ((piece_of program id).is_now || is_promoted id)

-- how many places are not marked
abbrev pub open_places : List Bool → ℕ
open_places [] = 0
open_places (m ∷ row) = if m then open_places row else suc (open_places row)

abbrev pub open_marks : List (List Bool) → ℕ
open_marks [] = 0
open_marks (row ∷ marks) = open_places row + open_marks marks

-- one more piece is marked
pub record IsMarked (old new : List (List Bool)) (id : PieceId) : Type 0 where
  pub here : IsTrue (is_immediate new id)
  pub kept : (other : PieceId) → IsTrue (is_immediate old other) → IsTrue (is_immediate new other)
  pub only : (other : PieceId) → IsTrue (is_immediate new other) → (other ≡ id) ⊎ IsTrue (is_immediate old other)
  pub fewer : is_immediate old id ≡ false → open_marks new < open_marks old
