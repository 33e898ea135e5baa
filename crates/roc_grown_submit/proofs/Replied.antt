-- The line of a reply
use Rattle.std.proofs.Common.{◌≡◌, ℕ, ℤ, List, [], ◌++◌, sym, ◌∙◌, ap, append-nil, Result, Ok, Err}
use Rattle.std.specs.Prelude.{OnOk}
use Rattle.roc_base.specs.declared.id.TxnId.{TxnId}
use Rattle.roc_grown.specs.declared.handled.GrownAnswer.{GrownAnswer}
use Rattle.roc_grown.specs.declared.handled.GrownAnswer.TheVariants.{Answered}
use Rattle.roc_grown_submit.specs.GrownCoordRun.{grown_reply_lines}
use Rattle.roc_program.specs.Program.{Workload}
use Rattle.roc_report.specs.Line.{Answer}
use Rattle.roc_report.specs.Text.{line_text, lines_text}

-- it stands behind a text
pub reply_told : {A E : Type 0} (r : Result A E) (program : Workload) (answer : GrownAnswer) (id : TxnId) (reply : List ℤ) (old new : List ℕ) → answer ≡ Answered id reply
    → OnOk r (new ≡ old ++ line_text program (Answer id reply)) → OnOk r (new ≡ old ++ lines_text program (grown_reply_lines answer))
reply_told (Ok a) program answer id reply old new is text =
    text ∙ ap (λ l. old ++ l) (sym (append-nil (line_text program (Answer id reply)))) ∙ ap (λ a. old ++ lines_text program (grown_reply_lines a)) (sym is)
reply_told (Err e) program answer id reply old new is text = tt

-- no reply adds nothing
pub nothing_told : (program : Workload) (answer : GrownAnswer) (text : List ℕ) → grown_reply_lines answer ≡ [] → text ≡ text ++ lines_text program (grown_reply_lines answer)
nothing_told program answer text none = sym (append-nil text) ∙ ap (λ l. text ++ lines_text program l) (sym none)
