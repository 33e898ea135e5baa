use Rattle.std.proofs.Common.{ℕ, ◌++◌, ap, ◌∙◌}
use Rattle.roc_program.specs.declared.piece_id.PieceId.{PieceId}
use Rattle.roc_report.specs.Checked.{CheckedLine, Piece}
use Rattle.roc_report.specs.Checked.{checked_text}
use Rattle.roc_check.specs.Lines.{standing_of}
use Rattle.roc_check.proofs.Added.{numbered_line_added}
use Rattle.roc_check.proofs.text.push_pieces.Goals as goal

pub loop-piece-preserved : goal.loop-piece-preserved
loop-piece-preserved c =
    let plan = c.args.plan.now in
    let old = c.loop-piece.text.items in
    let line : PieceId → CheckedLine = λ id. Piece id (standing_of plan id) in
    let id : ℕ → PieceId = λ k. record { proc = c.args.proc; piece = k } in
    let here = id c.loop-piece.piece in
    numbered_line_added plan.program c.args.text.now.items old c.append_check.new.into.items line id c.loop-piece.piece
    c.loop-piece.invariant
    (c.in_ok-append_check.ensures.ok
    ∙ (ap (λ w. old ++ checked_text w (Piece here c.standing-standing.result)) c.workload-workload.ensures.program
    ∙ ap (λ s. old ++ checked_text plan.program (Piece here s)) c.standing-standing.ensures))
