-- The pieces of a procedure that have to run as one: docs/CHECKER.md, "Merging"
use Rattle.std.specs.Prelude.{◌≡◌, ℕ, Bool, IsTrue}
use Rattle.roc_program.specs.Program.{Workload}
use Rattle.roc_program.specs.Pieces.{piece_of}
use Rattle.roc_program.specs.declared.piece_id.PieceId.{PieceId}
use Rattle.roc_conflict.specs.Contended.{is_contended}
use Rattle.roc_merge_groups.specs.Groups.{piece_numbered}
use Rattle.roc_merge_groups.specs.Flow.{IsBetween}

-- the core: the contended pieces of a procedure, and those between two of them
pub data InCore (program : Workload) (is_immediate : PieceId → Bool) (proc : ℕ) : ℕ → Type 0 where
  contended : {x : ℕ} → IsTrue (is_contended program is_immediate (piece_numbered proc x)) → InCore program is_immediate proc x
  between : {p x q : ℕ} → IsTrue (is_contended program is_immediate (piece_numbered proc p)) → IsTrue (is_contended program is_immediate (piece_numbered proc q))
      → IsBetween program proc p x q → InCore program is_immediate proc x

-- the place expressions of two pieces are one tree
abbrev pub AreCoLocated : Workload → (proc x y : ℕ) → Type 0
AreCoLocated program proc x y = (piece_of program (piece_numbered proc x)).place ≡ (piece_of program (piece_numbered proc y)).place

-- a workload is acceptable: the core of each procedure is all co-located
abbrev pub IsAcceptable : Workload → (PieceId → Bool) → Type 0
IsAcceptable program is_immediate = (proc x y : ℕ) → InCore program is_immediate proc x → InCore program is_immediate proc y → AreCoLocated program proc x y
