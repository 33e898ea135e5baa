use Rattle.std.proofs.Common.{List, [], map, take, drop, sym, ap, ◌+◌, ◌∙◌}
use Rattle.std.proofs.lemmas.Result.{err_from_is_err_and}
use Rattle.roc_lang.specs.declared.syntax.Piece.{Piece}
use Rattle.roc_lang.specs.Tree.{name_tree, piece_tree, table_tree}
use Rattle.roc_lang.specs.Scope.{pieces_faults}
use Rattle.roc_lang_scope.proofs.Names.{item_splits}
use Rattle.roc_lang_scope.specs.Inner.Before.{bound_behind}
use Rattle.roc_lang_scope.specs.Inner.Misuse.{misuse_fault}
use Rattle.roc_lang_scope.proofs.Stops.{pieces_stop}
use Rattle.roc_lang_scope.proofs.pieces.check_pieces.Goals as goal

pub returns-in_err-check_piece : goal.returns-in_err-check_piece
returns-in_err-check_piece c =
    let p = err_from_is_err_and c.from_residual.result c.from_residual.ensures.1 in
    let all = c.args.pieces.now in
    let i = c.loop-i.i in
    let tables = map table_tree c.args.tables.now in
    let earlier = map (λ (p : Piece). name_tree p.name) (take i all) in
    let bound = bound_behind (map name_tree c.args.arguments.now) (map piece_tree (take i all)) [] in
    let split = item_splits all i c.index-pieces-i.result c.loop-i-test.true c.index-pieces-i.is in
    let rest = ap (λ (xs : List Piece). pieces_faults tables c.args.is_view earlier bound (map piece_tree xs)) (sym split.0) ∙ c.loop-i.invariant in
    rw (p.1, p.2) (pieces_stop (misuse_fault c.in_err-check_piece.field-0.0) tables c.args.is_view earlier bound (piece_tree c.index-pieces-i.result) (map piece_tree (drop (i + 1) all)) _ rest c.in_err-check_piece.ensures)
