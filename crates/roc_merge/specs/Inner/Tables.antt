-- Tables of a procedure: which of its pieces are contended, and which lead to which. A table has a row for each piece, of those that lead to it
use Rattle.std.specs.Prelude.{◌↔◌, ℕ, Bool, false, ◌<◌, IsTrue, List, [], slice_index_or, ◌⊎◌}
use Rattle.roc_program.specs.Program.{Workload}
use Rattle.roc_program.specs.declared.piece_id.PieceId.{PieceId}
use Rattle.roc_conflict.specs.Contended.{is_contended}
use Rattle.roc_merge_groups.specs.Groups.{piece_numbered}
use Rattle.roc_merge_groups.specs.Flow.{feeds, Leads}
use Rattle.roc_merge_groups.specs.Core.{AreCoLocated}

-- the row holds the number
abbrev pub holds : List Bool → ℕ → Bool
holds row x = slice_index_or row x false

abbrev pub row_in : List (List Bool) → ℕ → List Bool
row_in table x = slice_index_or table x []

-- a row tells of each piece whether it is contended
abbrev pub AreContended : Workload → (PieceId → Bool) → ℕ → List Bool → Type 0
AreContended program is_immediate proc row = (x : ℕ) → IsTrue (holds row x) ↔ IsTrue (is_contended program is_immediate (piece_numbered proc x))

-- the first rows tell which pieces lead to those
abbrev pub IsFlow : Workload → ℕ → List (List Bool) → (rows : ℕ) → Type 0
IsFlow program proc table rows = (y : ℕ) → y < rows → (p : ℕ) → IsTrue (holds (row_in table y) p) ↔ Leads (feeds program proc) p y

-- by these tables x is contended, or between two contended pieces
abbrev pub IsCoreBy : List Bool → List (List Bool) → ℕ → Type 0
IsCoreBy contended table x =
    IsTrue (holds contended x)
    ⊎ (((p : ℕ) × IsTrue (holds contended p) × IsTrue (holds (row_in table x) p)) × ((q : ℕ) × IsTrue (holds contended q) × IsTrue (holds (row_in table q) x)))

-- by these tables p and q are contended pieces with x between them, at another place
pub record IsWayBy (program : Workload) (proc : ℕ) (contended : List Bool) (table : List (List Bool)) (p q x : ℕ) : Type 0 where
  pub first : IsTrue (holds contended p)
  pub second : IsTrue (holds contended q)
  pub behind : IsTrue (holds (row_in table x) p)
  pub before : IsTrue (holds (row_in table q) x)
  pub unlike : ¬ AreCoLocated program proc p x

-- by these tables x is at the place of p where it is between contended pieces p and q
abbrev pub IsClearBy : Workload → ℕ → List Bool → List (List Bool) → (p q x : ℕ) → Type 0
IsClearBy program proc contended table p q x =
    IsTrue (holds contended p) → IsTrue (holds contended q) → IsTrue (holds (row_in table x) p) → IsTrue (holds (row_in table q) x) → AreCoLocated program proc p x

-- p and q are contended, one behind the other, at two places
pub record IsApartBy (program : Workload) (proc : ℕ) (contended : List Bool) (p q : ℕ) : Type 0 where
  pub first : IsTrue (holds contended p)
  pub second : IsTrue (holds contended q)
  pub unlike : ¬ AreCoLocated program proc p q

abbrev pub IsJoinedBy : Workload → ℕ → List Bool → (p q : ℕ) → Type 0
IsJoinedBy program proc contended p q = IsTrue (holds contended p) → IsTrue (holds contended q) → AreCoLocated program proc p q
