use Rattle.std.proofs.Common.{List, map, sym, subst}
use Rattle.std.specs.List.{AllByRecursion}
use Rattle.roc_program.specs.Keys.{HasKeys}
use Rattle.roc_program.specs.Parts as pure
use Rattle.roc_program.specs.declared.parts.Piece.{Piece}
use Rattle.roc_program.proofs.Rows.{all_read}
use Rattle.roc_whole.proofs.whole.run_pieces.Goals as goal

pub run_piece-requires-clause-keys : goal.run_piece-requires-clause-keys
run_piece-requires-clause-keys c =
    let P : List Piece → Type 0 = λ ps. AllByRecursion HasKeys (map pure.piece ps) in
    all_read HasKeys pure.piece c.deref-piece-items.result.now c.loop-piece.piece-index c.piece-item.result (subst P (sym c.deref-piece-items.ensures.value) c.requires) c.loop-piece-test.true c.piece-item.is
