-- No write failed so far, and the pieces before this one were taken whole.
use Rattle.std.proofs.Common.{◌≡◌, take}
use Rattle.std.specs.List.{flat_map}
use Rattle.roc_io.specs.Observed.{Adds}
use Rattle.roc_io.proofs.sink.write_all.Given as goal

abbrev pub invariant-loop-piece : goal.invariant-loop-piece
invariant-loop-piece g l =
    (g.S.Sink.faults l.sink ≡ g.S.Sink.faults l.fn.sink)
    × Adds (g.S.Sink.taken l.fn.sink) (g.S.Sink.taken l.sink) (flat_map (λ piece. piece.now) (take l.piece-index l.pieces))
