use Rattle.std.proofs.Common.{◌≡◌, map}
use Rattle.std.specs.List.{range_with_len}
use Rattle.roc_conflict.specs.Classes.{is_immediate}
use Rattle.roc_conflict.proofs.classes.row.Given as goal

abbrev pub invariant-loop-piece : goal.invariant-loop-piece
invariant-loop-piece l = l.classes.items ≡ map (λ k. is_immediate l.marks (record { proc = l.proc; piece = k })) (range_with_len 0 l.piece)
