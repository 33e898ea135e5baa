-- How pieces stand in groups, and the groups that merging gives: docs/CHECKER.md, "Merging"
use Rattle.std.specs.Prelude.{◌≡◌, ◌≢◌, ◌↔◌, ℕ, Bool, ◌<◌, List, length}
use Rattle.std.specs.Bool.{nat_lt}
use Rattle.std.specs.List.{AllByRecursion}
use Rattle.roc_sequence.specs.Lists.{Has}
use Rattle.roc_sequence.specs.Rising.{IsRising}
use Rattle.roc_program.specs.Program.{Workload}
use Rattle.roc_program.specs.Pieces.{pieces_in}
use Rattle.roc_program.specs.declared.piece_id.PieceId.{PieceId}
use Rattle.roc_merge_groups.specs.Groups.{groups_in, first_piece}
use Rattle.roc_merge_groups.specs.Core.{InCore}

-- the two stand in one group
pub record AreTogether (groups : List (List ℕ)) (x y : ℕ) : Type 0 where
  pub group : List ℕ
  pub is : Has group groups
  pub one : Has x group
  pub other : Has y group

-- Groups of the first `count` pieces: each piece is in one group and no more; a group's pieces run in program order, and groups are
-- numbered by their first pieces
pub record IsGrouping (count : ℕ) (groups : List (List ℕ)) : Type 0 where
  pub some : AllByRecursion (λ group. 0 < length group) groups
  pub rising : AllByRecursion (IsRising nat_lt) groups
  pub numbered : IsRising (λ g h. nat_lt (first_piece g) (first_piece h)) groups
  pub whole : (x : ℕ) → x < count ↔ AreTogether groups x x
  pub once : (g h : List ℕ) (x : ℕ) → Has g groups → Has h groups → Has x g → Has x h → g ≡ h

-- the groups that merging gives a procedure: its core is one group, and each other piece a group by itself
pub record IsMergedIn (program : Workload) (is_immediate : PieceId → Bool) (proc : ℕ) (groups : List (List ℕ)) : Type 0 where
  pub grouping : IsGrouping (length (pieces_in program proc)) groups
  pub together : (x y : ℕ) → InCore program is_immediate proc x → InCore program is_immediate proc y → AreTogether groups x y
  pub alone : (x y : ℕ) → x ≢ y → AreTogether groups x y → InCore program is_immediate proc x × InCore program is_immediate proc y

-- the same of each procedure
pub record IsMerged (program : Workload) (is_immediate : PieceId → Bool) (groups : List (List (List ℕ))) : Type 0 where
  pub procedures : length groups ≡ length program.procedures
  pub each : (proc : ℕ) → proc < length program.procedures → IsMergedIn program is_immediate proc (groups_in groups proc)
