-- Why pieces cannot be merged: docs/CHECKER.md, "Merging"
use Rattle.std.specs.Prelude.{◌≡◌, ℕ, Bool, ◌<◌, IsTrue, List, [], ◌∷◌, ◌⊎◌}
use Rattle.roc_program.specs.Program.{Workload}
use Rattle.roc_program.specs.declared.piece_id.PieceId.{PieceId}
use Rattle.roc_conflict.specs.Contended.{is_contended}
use Rattle.roc_merge_groups.specs.Flow.{IsBetween}
use Rattle.roc_merge_groups.specs.Core.{AreCoLocated}

-- one list of numbers stands before another, or is the same: the first number that differs is the lesser
abbrev pub IsUpTo : List ℕ → List ℕ → Type 0
IsUpTo [] ys = Unit {0}
IsUpTo (x ∷ xs) [] = ⊥
IsUpTo (x ∷ xs) (y ∷ ys) = (x < y) ⊎ ((x ≡ y) × IsUpTo xs ys)

-- two contended pieces of a procedure, one after the other in program order, that are not co-located
pub record AreApart (program : Workload) (is_immediate : PieceId → Bool) (p q : PieceId) : Type 0 where
  pub one_procedure : q.proc ≡ p.proc
  pub in_order : p.piece < q.piece
  pub first : IsTrue (is_contended program is_immediate p)
  pub second : IsTrue (is_contended program is_immediate q)
  pub unlike : ¬ AreCoLocated program p.proc p.piece q.piece

-- of all such pairs this is the first: by procedure, p, q
pub record IsApart (program : Workload) (is_immediate : PieceId → Bool) (p q : PieceId) : Type 0 where
  pub is : AreApart program is_immediate p q
  pub least : (a b : PieceId) → AreApart program is_immediate a b → IsUpTo (p.proc ∷ p.piece ∷ q.piece ∷ []) (a.proc ∷ a.piece ∷ b.piece ∷ [])

-- two contended pieces of a procedure, and one between them that is not co-located with the first
pub record IsInTheWay (program : Workload) (is_immediate : PieceId → Bool) (p q x : PieceId) : Type 0 where
  pub one_procedure : q.proc ≡ p.proc
  pub same_procedure : x.proc ≡ p.proc
  pub first : IsTrue (is_contended program is_immediate p)
  pub second : IsTrue (is_contended program is_immediate q)
  pub between : IsBetween program p.proc p.piece x.piece q.piece
  pub unlike : ¬ AreCoLocated program p.proc p.piece x.piece

-- no two are apart in any procedure, and of all such three these are the first: by procedure, p, q, x
pub record IsBlocked (program : Workload) (is_immediate : PieceId → Bool) (p q x : PieceId) : Type 0 where
  pub none_apart : (a b : PieceId) → ¬ AreApart program is_immediate a b
  pub is : IsInTheWay program is_immediate p q x
  pub least : (a b c : PieceId) → IsInTheWay program is_immediate a b c
      → IsUpTo (p.proc ∷ p.piece ∷ q.piece ∷ x.piece ∷ []) (a.proc ∷ a.piece ∷ b.piece ∷ c.piece ∷ [])
