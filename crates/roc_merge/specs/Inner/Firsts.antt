-- The first pieces for which a search stops, and what it saw before them
use Rattle.std.specs.Prelude.{ℕ, Bool, ◌<◌, IsTrue, List}
use Rattle.roc_program.specs.Program.{Workload}
use Rattle.roc_program.specs.declared.piece_id.PieceId.{PieceId}
use Rattle.roc_conflict.specs.Contended.{is_contended}
use Rattle.roc_merge_groups.specs.Groups.{piece_numbered}
use Rattle.roc_merge_groups.specs.Flow.{IsBetween}
use Rattle.roc_merge_groups.specs.Core.{AreCoLocated}
use Rattle.roc_merge_groups.specs.Refusals.{AreApart, IsInTheWay}
use Rattle.roc_merge.specs.Inner.Tables.{IsWayBy, IsClearBy, IsApartBy, IsJoinedBy}

-- p and q are not apart
abbrev pub IsJoined : Workload → (PieceId → Bool) → (proc p q : ℕ) → Type 0
IsJoined program is_immediate proc p q =
    p < q → IsTrue (is_contended program is_immediate (piece_numbered proc p)) → IsTrue (is_contended program is_immediate (piece_numbered proc q)) → AreCoLocated program proc p q

-- x is not in the way of p and q
abbrev pub IsClear : Workload → (PieceId → Bool) → (proc p q x : ℕ) → Type 0
IsClear program is_immediate proc p q x =
    IsTrue (is_contended program is_immediate (piece_numbered proc p)) → IsTrue (is_contended program is_immediate (piece_numbered proc q)) → IsBetween program proc p x q
    → AreCoLocated program proc p x

-- the first q behind p
pub record IsFirstBehind (program : Workload) (proc : ℕ) (contended : List Bool) (p q : ℕ) : Type 0 where
  pub order : p < q
  pub is : IsApartBy program proc contended p q
  pub qs : (b : ℕ) → p < b → b < q → IsJoinedBy program proc contended p b

-- the first two of a procedure
pub record IsFirstPair (program : Workload) (is_immediate : PieceId → Bool) (proc p q : ℕ) : Type 0 where
  pub is : AreApart program is_immediate (piece_numbered proc p) (piece_numbered proc q)
  pub qs : (b : ℕ) → b < q → IsJoined program is_immediate proc p b
  pub ps : (a b : ℕ) → a < p → IsJoined program is_immediate proc a b

-- the first x for p and q; the first q and x for p
pub record IsFirstBetween (program : Workload) (proc : ℕ) (contended : List Bool) (table : List (List Bool)) (p q x : ℕ) : Type 0 where
  pub is : IsWayBy program proc contended table p q x
  pub xs : (c : ℕ) → c < x → IsClearBy program proc contended table p q c

pub record IsFirstFrom (program : Workload) (proc : ℕ) (contended : List Bool) (table : List (List Bool)) (count p q x : ℕ) : Type 0 where
  pub is : IsFirstBetween program proc contended table p q x
  pub within : (q < count) × (x < count)
  pub qs : (b c : ℕ) → b < q → c < count → IsClearBy program proc contended table p b c

-- the first three of a procedure
pub record IsFirstThree (program : Workload) (is_immediate : PieceId → Bool) (proc p q x : ℕ) : Type 0 where
  pub is : IsInTheWay program is_immediate (piece_numbered proc p) (piece_numbered proc q) (piece_numbered proc x)
  pub xs : (c : ℕ) → c < x → IsClear program is_immediate proc p q c
  pub qs : (b c : ℕ) → b < q → IsClear program is_immediate proc p b c
  pub ps : (a b c : ℕ) → a < p → IsClear program is_immediate proc a b c
