-- The lines of a log, one piece behind the other.
use Rattle.std.proofs.Common.{◌≡◌, ℕ, ℤ, Bool, true, List, ◌∷◌, ◌++◌, sym, ◌∙◌, ap, append-nil, append_assoc, Result, Ok, Err}
use Rattle.std.specs.Prelude.{OnOk}
use Rattle.std.proofs.lemmas.Grind.{flat_map-append}
use Rattle.roc_base.specs.declared.id.TxnId.{TxnId}
use Rattle.roc_coord.specs.declared.handled.Handled.{Handled}
use Rattle.roc_coord.specs.declared.handled.Handled.TheVariants.{Answered}
use Rattle.roc_log.specs.declared.line.LogLine.{LogLine}
use Rattle.roc_log.specs.declared.line.LogLine.TheVariants as log
use Rattle.roc_log.specs.LogLine.{log_line_text, lines_text}
use Rattle.roc_log.specs.Sent.{outs_logged}
use Rattle.roc_msg.specs.declared.outbox.Outgoing.{Outgoing}
use Rattle.roc_wire.specs.declared.header.Header.{Header}
use Rattle.roc_program.specs.Program.{Workload}
use Rattle.roc_node_submit.specs.CoordRun.{reply_logged}
use Rattle.roc_node_submit.specs.Inner.CoordTurn.{if_logged}

-- a line, and then more
pub line_then : {A E : Type 0} (r : Result A E) (written program : Workload) (logs : Bool) (first : LogLine) (more : List LogLine) (old mid new : List ℕ) → written ≡ program → logs ≡ true
    → mid ≡ old ++ log_line_text written first → OnOk r (new ≡ mid ++ lines_text program more) → OnOk r (new ≡ old ++ if_logged logs (lines_text program (first ∷ more)))
line_then (Ok a) written program logs first more old mid new same kept one rest =
    rest ∙ ap (λ l. l ++ lines_text program more) (one ∙ ap (λ w. old ++ log_line_text w first) same) ∙ append_assoc old (log_line_text program first) (lines_text program more)
    ∙ ap (λ b. old ++ if_logged b (lines_text program (first ∷ more))) (sym kept)
line_then (Err e) written program logs first more old mid new same kept one rest = tt

-- lines, and then others
pub lines_then : {A E : Type 0} (r : Result A E) (program : Workload) (some more : List LogLine) (old mid new : List ℕ) → mid ≡ old ++ lines_text program some → OnOk r (new ≡ mid ++ lines_text program more)
    → OnOk r (new ≡ old ++ lines_text program (some ++ more))
lines_then (Ok a) program some more old mid new one rest =
    rest ∙ ap (λ l. l ++ lines_text program more) one ∙ append_assoc old (lines_text program some) (lines_text program more) ∙ ap (λ l. old ++ l) (sym (flat_map-append (log_line_text program) some more))
lines_then (Err e) program some more old mid new one rest = tt

-- those of messages that are told by what they equal
pub outs_told : {A E : Type 0} (r : Result A E) (program : Workload) (header : Header) (sent outs : List Outgoing) (old new : List ℕ) → sent ≡ outs → OnOk r (new ≡ old ++ lines_text program (outs_logged header sent))
    → OnOk r (new ≡ old ++ lines_text program (outs_logged header outs))
outs_told (Ok a) program header sent outs old new same told = told ∙ ap (λ l. old ++ lines_text program (outs_logged header l)) same
outs_told (Err e) program header sent outs old new same told = tt

-- the line of an answer
pub answer_told : {A E : Type 0} (r : Result A E) (program : Workload) (answer : Handled) (id : TxnId) (reply : List ℤ) (old new : List ℕ) → answer ≡ Answered id reply
    → OnOk r (new ≡ old ++ log_line_text program (log.Answer id reply)) → OnOk r (new ≡ old ++ lines_text program (reply_logged answer))
answer_told (Ok a) program answer id reply old new is text =
    text ∙ ap (λ l. old ++ l) (sym (append-nil (log_line_text program (log.Answer id reply)))) ∙ ap (λ a. old ++ lines_text program (reply_logged a)) (sym is)
answer_told (Err e) program answer id reply old new is text = tt
