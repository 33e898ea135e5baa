-- An empty text is not written.
use Rattle.roc_io.proofs.Pieces.{no_piece, one_piece}
use Rattle.roc_node_submit.proofs.coord_turns.write_text.Goals as goal

pub returns-then-is_empty-clause-pieces : goal.returns-then-is_empty-clause-pieces
returns-then-is_empty-clause-pieces g c = no_piece _ c.args.text.now c.if-is_empty.ensures

pub returns-clause-pieces : goal.returns-clause-pieces
returns-clause-pieces g c = one_piece c.write.result _ _ _ _ c.args.text.now c.if-is_empty.ensures c.write.ensures.pieces
