-- The groups of a procedure as the tests of them see it, group by group
use Rattle.std.specs.Prelude.{◌≢◌, ℕ, Bool, ◌==◌, IsTrue, List}
use Rattle.std.specs.List.{list_any}
use Rattle.roc_sequence.specs.Lists.{Has}
use Rattle.roc_program.specs.Program.{Workload}
use Rattle.roc_program.specs.declared.piece_id.PieceId.{PieceId}
use Rattle.roc_conflict.specs.Contended.{is_contended}
use Rattle.roc_merge_groups.specs.Groups.{piece_numbered}
use Rattle.roc_merge_groups.specs.Core.{AreCoLocated}
use Rattle.roc_merge_groups.specs.Grouping.{AreTogether}

-- the group holds the piece
abbrev pub has_piece : ℕ → List ℕ → Bool
has_piece x group = list_any (λ y. y == x) group

-- two pieces of the group are co-located and immediate
pub record IsAlike (program : Workload) (is_immediate : PieceId → Bool) (proc : ℕ) (group : List ℕ) : Type 0 where
  pub co_located : (x y : ℕ) → x ≢ y → Has x group → Has y group → AreCoLocated program proc x y
  pub immediate : (x y : ℕ) → x ≢ y → Has x group → Has y group → IsTrue (is_immediate (piece_numbered proc x))

-- a piece of the group is contended
abbrev pub has_contended : Workload → (PieceId → Bool) → ℕ → List ℕ → Bool
has_contended program is_immediate proc group = list_any (λ x. is_contended program is_immediate (piece_numbered proc x)) group

-- the contended pieces of a procedure are all in one group
abbrev pub AreContendedIn : Workload → (PieceId → Bool) → ℕ → List (List ℕ) → Type 0
AreContendedIn program is_immediate proc groups =
    (x y : ℕ) → IsTrue (is_contended program is_immediate (piece_numbered proc x)) → IsTrue (is_contended program is_immediate (piece_numbered proc y)) → AreTogether groups x y
