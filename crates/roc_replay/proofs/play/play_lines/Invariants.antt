-- the lines so far were played, the sink took their text, each line's in one piece, and it has not failed
use Rattle.std.proofs.Common.{◌≡◌, take, option_copied}
use Rattle.roc_replay.proofs.PiecesSoFar.{ArePiecesSoFar}
use Rattle.roc_replay.proofs.SoFar.{IsSoFar}
use Rattle.roc_replay.proofs.play.play_lines.Given as goal

abbrev pub invariant-loop-line : goal.invariant-loop-line
invariant-loop-line g l =
    (g.S.Sink.faults l.sink ≡ g.S.Sink.faults l.fn.sink)
    × IsSoFar l.plan (option_copied l.next) (take l.line-index l.lines) l.world l.busy (g.S.Sink.taken l.fn.sink) (g.S.Sink.taken l.sink)
    × ArePiecesSoFar l.plan (option_copied l.next) (take l.line-index l.lines) l.world (g.S.Sink.pieces l.fn.sink) (g.S.Sink.pieces l.sink)
