-- The text of the lines that are left in a loop, behind the text so far
use Rattle.std.proofs.Common.{◌≡◌, ℕ, ◌+◌, ◌<◌, List, ◌∷◌, ◌++◌, length, map, drop, get_or, sym, ap, ◌∙◌, append_assoc, arith}
use Rattle.roc_sequence.proofs.Fronts.{rest_at}
use Rattle.roc_msg.specs.declared.msg.Envelope.{Envelope}
use Rattle.roc_program.specs.Program.{Workload}
use Rattle.roc_report.specs.Line.{Line, Send}
use Rattle.roc_report.specs.Shown.{shown_message}
use Rattle.roc_report.specs.Text.{line_text, lines_text}
use Rattle.roc_replay.specs.Report.{send_lines}

-- the first of the lines that are left is added to the text
pub line_more :
    (program : Workload) (text more all : List ℕ) (line : Line) (lines left : List Line) → lines ≡ line ∷ left → more ≡ text ++ line_text program line
    → text ++ lines_text program lines ≡ all → more ++ lines_text program left ≡ all
line_more program text more all line lines left is added so_far =
    ap (λ (t : List ℕ). t ++ lines_text program left) added
    ∙ append_assoc text (line_text program line) (lines_text program left)
    ∙ ap (λ (ls : List Line). text ++ lines_text program ls) (sym is)
    ∙ so_far

-- the lines of elements that are left from a place
pub mapped_left : {A : Type 0} (shows : A → Line) (xs : List A) (i : ℕ) (x : A) → i < length xs → x ≡ get_or xs i x → map shows (drop i xs) ≡ shows x ∷ map shows (drop (i + 1) xs)
mapped_left {A} shows xs i x within is = ap (map shows) (rest_at xs i x within) ∙ ap (λ (y : A). shows y ∷ map shows (drop (i + 1) xs)) (sym is)

-- the lines of messages that are left from a place
pub sends_left :
    (first : ℕ) (sent : List Envelope) (i : ℕ) (x : Envelope) → i < length sent → x ≡ get_or sent i x
    → send_lines (first + i) (drop i sent) ≡ Send (first + i) (shown_message x) ∷ send_lines (first + (i + 1)) (drop (i + 1) sent)
sends_left first sent i x within is =
    let next : first + i + 1 ≡ first + (i + 1) = omega arith in
    ap (send_lines (first + i)) (rest_at sent i x within)
    ∙ ap (λ (y : Envelope). Send (first + i) (shown_message y) ∷ send_lines (first + i + 1) (drop (i + 1) sent)) (sym is)
    ∙ ap (λ (n : ℕ). Send (first + i) (shown_message x) ∷ send_lines n (drop (i + 1) sent)) next
