use Rattle.std.proofs.Common.{◌↔◌, ℕ, Bool, List, IsTrue, map, ap, subst, ◌∙◌}
use Rattle.roc_program.specs.declared.piece_id.PieceId.{PieceId}
use Rattle.roc_conflict.specs.Classes.{is_immediate}
use Rattle.roc_conflict.specs.Inner.Marks.{is_marked_at}
use Rattle.roc_conflict.proofs.classes.Classes.are_among.Goals as goal

of_ids : (r : Bool) (classes marks : List (List Bool)) → (IsTrue r ↔ ((proc piece : ℕ) → IsTrue (is_marked_at classes proc piece) → IsTrue (is_marked_at marks proc piece)))
    → (IsTrue r ↔ ((id : PieceId) → IsTrue (is_immediate classes id) → IsTrue (is_immediate marks id)))
of_ids r classes marks h = (λ t id. h.0 t id.proc id.piece, λ k. h.1 (λ proc piece. k (record { proc = proc; piece = piece })))

pub returns : goal.returns
returns c =
    of_ids c.are_rows_among.result c.args.self.now c.args.marks.now
    (let P : List (List Bool) → Type 0 = λ rows. IsTrue c.are_rows_among.result ↔ ((proc piece : ℕ) → IsTrue (is_marked_at rows proc piece) → IsTrue (is_marked_at c.args.marks.now proc piece)) in
    subst P (ap (map (λ row. row.items)) c.as_slice.ensures.value ∙ c.self.view_is) c.are_rows_among.ensures)
