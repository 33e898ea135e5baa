use Rattle.std.proofs.Common.{◌≡◌, map}
use Rattle.std.specs.List.{range_with_len}
use Rattle.roc_program.specs.Pieces.{piece_ids}
use Rattle.roc_conflict.specs.Classes.{is_immediate}
use Rattle.roc_conflict.proofs.classes.Classes.where_marked.Given as goal

abbrev pub invariant-loop-proc : goal.invariant-loop-proc
invariant-loop-proc l = map (λ v. v.items) l.procedures.items ≡ map (λ proc. map (is_immediate l.marks) (piece_ids l.workload proc)) (range_with_len 0 l.proc)
