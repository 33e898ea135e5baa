use Rattle.std.proofs.Common.{◌≡◌, ◌++◌, map}
use Rattle.std.specs.List.{range_with_len}
use Rattle.roc_report.specs.Checked.{Piece}
use Rattle.roc_report.specs.Checked.{checked_lines_text}
use Rattle.roc_check.specs.Lines.{standing_of}
use Rattle.roc_check.proofs.text.push_pieces.Given as goal

abbrev pub invariant-loop-piece : goal.invariant-loop-piece
invariant-loop-piece l =
    l.text.items
    ≡ l.fn.text.items ++ checked_lines_text l.plan.program (map (λ id. Piece id (standing_of l.plan id)) (map (λ k. record { proc = l.proc; piece = k }) (range_with_len 0 l.piece)))
