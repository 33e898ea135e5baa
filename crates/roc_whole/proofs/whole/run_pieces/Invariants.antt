use Rattle.std.proofs.Common.{◌≡◌, drop, map}
use Rattle.roc_program.specs.Parts as pure
use Rattle.roc_whole.specs.Run.{progress, after_pieces}
use Rattle.roc_whole.proofs.whole.run_pieces.Given as goal

-- the pieces that are left, from here, lead where all of them lead from the start
abbrev pub invariant-loop-piece : goal.invariant-loop-piece
invariant-loop-piece l =
    after_pieces (progress l.rows.store l.names l.reply.items) (map pure.piece (drop l.piece-index l.piece-items))
    ≡ after_pieces (progress l.initial.rows.store l.initial.names l.initial.reply.items) (map pure.piece l.piece-items)
