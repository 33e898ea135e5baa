-- The pieces before the one that failed, and a front of that one, are a front of all.
use Rattle.roc_io.proofs.Told.{AddsFront-pieces}
use Rattle.roc_io.proofs.sink.write_all.Goals as goal

pub returns-in-Failed-clause-taken : goal.returns-in-Failed-clause-taken
returns-in-Failed-clause-taken g c =
    AddsFront-pieces _ _ _ _ c.args.pieces.now c.loop-piece.piece-index _ c.loop-piece-test.true c.loop-piece.invariant.1 c.in-Failed.ensures.taken
