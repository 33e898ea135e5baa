use Rattle.std.proofs.Common.{◌≡◌, ◌++◌, map}
use Rattle.std.specs.List.{range_with_len}
use Rattle.roc_program.proofs.pieces.push_pieces.Given as goal

abbrev pub invariant-loop-piece : goal.invariant-loop-piece
invariant-loop-piece l = l.ids.items ≡ l.fn.ids.items ++ map (λ k. record { proc = l.proc; piece = k }) (range_with_len 0 l.piece)
