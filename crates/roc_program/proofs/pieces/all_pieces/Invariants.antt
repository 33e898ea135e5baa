use Rattle.std.proofs.Common.{◌≡◌}
use Rattle.std.specs.List.{flat_map, range_with_len}
use Rattle.roc_program.specs.Pieces.{piece_ids}
use Rattle.roc_program.proofs.pieces.all_pieces.Given as goal

abbrev pub invariant-loop-proc : goal.invariant-loop-proc
invariant-loop-proc l = l.ids.items ≡ flat_map (piece_ids l.workload) (range_with_len 0 l.proc)
