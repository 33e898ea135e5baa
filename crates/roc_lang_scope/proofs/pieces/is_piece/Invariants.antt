use Rattle.std.proofs.Common.{◌≡◌, false, map, take}
use Rattle.roc_lang.specs.Tree.{name_tree}
use Rattle.roc_lang.specs.Scope.{is_among}
use Rattle.roc_lang_scope.proofs.pieces.is_piece.Given as goal

abbrev pub invariant-loop-piece : goal.invariant-loop-piece
invariant-loop-piece l = is_among (map (λ p. name_tree p.name) (take l.piece-index l.pieces)) (name_tree l.name) ≡ false
