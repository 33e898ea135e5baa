-- The lines of steps that grow at their end
use Rattle.std.proofs.Common.{◌≡◌, ℕ, List, Option, [], ◌∷◌, ◌++◌, refl, sym, ap, ◌∙◌, append_assoc}
use Rattle.std.proofs.lemmas.List.{append-nil}
use Rattle.roc_msg.specs.declared.msg.Envelope.{Envelope}
use Rattle.roc_plan.specs.Groups.{Plan}
use Rattle.roc_epoch.specs.declared.next.Next.{Next}
use Rattle.roc_growth.specs.World.{GrownWorld}
use Rattle.roc_growth.specs.Run.{Stepped, IsGrownRun, at_first, steps_on}
use Rattle.roc_growth.specs.Quiet.{messages_of}
use Rattle.roc_report.specs.Line.{Line}
use Rattle.roc_replay.specs.Report.{step_lines, steps_lines}

-- what was sent after steps before which this was
abbrev pub sent_after : List Envelope → List Stepped → List Envelope
sent_after before [] = before
sent_after before (step ∷ rest) = sent_after (messages_of step.outcome.world.sent) rest

pub sent_after-one : (before : List Envelope) (steps : List Stepped) (step : Stepped) → sent_after before (steps ++ step ∷ []) ≡ (messages_of step.outcome.world.sent)
sent_after-one before [] step = refl
sent_after-one before (first ∷ rest) step = sent_after-one (messages_of first.outcome.world.sent) rest step

pub steps_lines-one : (before : List Envelope) (steps : List Stepped) (step : Stepped)
    → steps_lines before (steps ++ step ∷ []) ≡ steps_lines before steps ++ step_lines (sent_after before steps) step
steps_lines-one before [] step = append-nil (step_lines before step)
steps_lines-one before (first ∷ rest) step =
    ap (λ (ls : List Line). step_lines before first ++ ls) (steps_lines-one (messages_of first.outcome.world.sent) rest step)
    ∙ sym (append_assoc (step_lines before first) (steps_lines (messages_of first.outcome.world.sent) rest) (step_lines (sent_after (messages_of first.outcome.world.sent) rest) step))

-- after a run, what was sent is what its world has
pub run_sent : (plan : Plan) (next : Option Next) (coords : ℕ) (steps : List Stepped) (w : GrownWorld) → IsGrownRun plan next coords steps w → sent_after [] steps ≡ messages_of w.sent
run_sent plan next coords steps w (at_first counted) = refl
run_sent plan next coords steps w (steps_on {steps = before} e o r h) = sent_after-one [] before (record { event = e; outcome = o })

-- one more step of a run adds its lines
pub run_lines : (plan : Plan) (next : Option Next) (coords : ℕ) (steps : List Stepped) (w : GrownWorld) → IsGrownRun plan next coords steps w → (step : Stepped)
    → steps_lines [] (steps ++ step ∷ []) ≡ steps_lines [] steps ++ step_lines (messages_of w.sent) step
run_lines plan next coords steps w r step =
    steps_lines-one [] steps step ∙ ap (λ (sent : List Envelope). steps_lines [] steps ++ step_lines sent step) (run_sent plan next coords steps w r)
