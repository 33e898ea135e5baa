-- A piece is its two numbers
use Rattle.std.proofs.Common.{◌≡◌, ℕ, ap, ◌∙◌}
use Rattle.roc_program.specs.declared.piece_id.PieceId.{PieceId}

-- a piece has a number of its procedure and one of its own
pub same_id_parts : (a b : PieceId) → a.proc ≡ b.proc → a.piece ≡ b.piece → a ≡ b
same_id_parts a b e f =
    let with_proc : ℕ → PieceId = λ n. record { proc = n; piece = a.piece } in
    let with_piece : ℕ → PieceId = λ n. record { proc = b.proc; piece = n } in
    ap with_proc e ∙ ap with_piece f
