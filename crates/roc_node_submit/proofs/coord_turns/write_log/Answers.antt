-- An empty piece is not written.
use Rattle.std.proofs.Common.{ℕ, List, length, ◌==◌, ◌∙◌, ap}
use Rattle.std.proofs.lemmas.Bool.{false≢true}
use Rattle.roc_book.specs.Call.{book_view}
use Rattle.roc_node_submit.proofs.Booked.{gains_by}
use Rattle.roc_node_submit.proofs.coord_turns.write_log.Goals as goal

pub returns-clause-gains : goal.returns-clause-gains
returns-clause-gains g c logs log is =
    gains_by c.write.result logs (book_view g.B.Book c.args.book.now) (book_view g.B.Book c.write.new.self) c.args.piece.now log is
    (λ none. false≢true (c.if-is_empty.ensures ∙ ap (λ (l : List ℕ). length l == 0) none)) c.write.ensures.opened c.write.ensures.taken
