use Rattle.std.proofs.Common.{◌≡◌, ℕ, false, List, length}
use Rattle.std.specs.List.{AllByRecursion}
use Rattle.roc_program.specs.declared.piece_id.PieceId.{PieceId}
use Rattle.roc_check.specs.Inner.PieceSets.{holds}
use Rattle.roc_check.proofs.users.no_users.Given as goal

abbrev pub invariant-loop : goal.invariant-loop
invariant-loop l = record {
  none : AllByRecursion (λ (set : List ℕ). (id : PieceId) → holds set id ≡ false) l.sets.items;
  long : length l.sets.items ≡ l.counter;
}
