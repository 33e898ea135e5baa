use Rattle.std.proofs.Common.{ap, map}
use Rattle.std.specs.List.{range_with_len}
use Rattle.roc_program.specs.declared.piece_id.PieceId.{PieceId}
use Rattle.roc_program.specs.Pieces.{piece_ids}
use Rattle.roc_program.proofs.Ranges.{lists_pushed}
use Rattle.roc_program.proofs.pieces.all_pieces.Goals as goal

pub loop-proc-preserved : goal.loop-proc-preserved
loop-proc-preserved c =
    lists_pushed {A = PieceId} c.loop-proc.ids.items (map (λ k. record { proc = c.loop-proc.proc; piece = k }) (range_with_len 0 c.piece_count.result)) c.push_pieces.new.ids.items
    (piece_ids c.args.workload.now) c.loop-proc.proc
    c.in_ok-push_pieces.ensures c.loop-proc.invariant (ap (λ n. map (λ k. record { proc = c.loop-proc.proc; piece = k }) (range_with_len 0 n)) c.piece_count.ensures)
