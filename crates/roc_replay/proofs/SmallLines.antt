-- The numbers of lines that were written one after another have at most 64 bits
use Rattle.std.proofs.Common.{◌≡◌, ℕ, ℤ, ◌+◌, ◌≤◌, List, [], ◌∷◌, ◌++◌, length, map, drop, sym, subst}
use Rattle.roc_sequence.proofs.Fronts.{no_rest}
use Rattle.roc_sequence.proofs.Holds.{all_append}
use Rattle.roc_base.specs.declared.id.TxnId.{TxnId}
use Rattle.roc_rows.specs.declared.cell.Cell.{Cell}
use Rattle.roc_msg.specs.declared.msg.Envelope.{Envelope}
use Rattle.roc_report.specs.Line.{Line, Order, Row, Pending}
use Rattle.roc_report.specs.ReportLine.{HasSmallNumbers, HaveSmallNumbers}
use Rattle.roc_replay.specs.Report.{send_lines}

-- where none is left, all are small
pub all_small : {A : Type 0} (shows : A → Line) (xs : List A) (i : ℕ) → length xs ≤ i → (HaveSmallNumbers (map shows (drop i xs)) → HaveSmallNumbers (map shows xs)) → HaveSmallNumbers (map shows xs)
all_small {A} shows xs i past of_rest = of_rest (subst (λ (ys : List A). HaveSmallNumbers (map shows ys)) (sym (no_rest xs i past)) tt)

pub all_sends_small : (first : ℕ) (sent : List Envelope) (i : ℕ) → length sent ≤ i
    → (HaveSmallNumbers (send_lines (first + i) (drop i sent)) → HaveSmallNumbers (send_lines first sent)) → HaveSmallNumbers (send_lines first sent)
all_sends_small first sent i past of_rest = of_rest (subst (λ (ys : List Envelope). HaveSmallNumbers (send_lines (first + i) ys)) (sym (no_rest sent i past)) tt)

-- a line that was written is small, so all are where those behind it are
pub one_small : (line : Line) (lines left : List Line) (All : Type 0) → lines ≡ line ∷ left → HasSmallNumbers line → (HaveSmallNumbers lines → All) → HaveSmallNumbers left → All
one_small line lines left All is small of_lines rest = of_lines (subst HaveSmallNumbers (sym is) (small, rest))

pub three_small : (a b d : List Line) → HaveSmallNumbers a → HaveSmallNumbers b → HaveSmallNumbers d → HaveSmallNumbers (a ++ (b ++ d))
three_small a b d h k l = all_append HasSmallNumbers a (b ++ d) h (all_append HasSmallNumbers b d k l)

pub closing_small : (order : List TxnId) (cells : List (Cell × ℤ)) (unanswered : List TxnId) (end : Line)
    → HasSmallNumbers (Order order) → HaveSmallNumbers (map (λ e. Row e.0 e.1) cells) → HaveSmallNumbers (map Pending unanswered) → HasSmallNumbers end
    → HaveSmallNumbers (Order order ∷ (map (λ e. Row e.0 e.1) cells ++ (map Pending unanswered ++ end ∷ [])))
closing_small order cells unanswered end h rows pending last =
    (h, three_small (map (λ e. Row e.0 e.1) cells) (map Pending unanswered) (end ∷ []) rows pending (last, tt))
