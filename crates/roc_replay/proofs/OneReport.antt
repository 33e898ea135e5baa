-- Schedules with the same lines have one report
use Rattle.std.proofs.Common.{◌≡◌, ℕ, List, sym, ap, ◌∙◌}
use Rattle.std.specs.Prelude.{Option}
use Rattle.roc_plan.specs.Groups.{Plan}
use Rattle.roc_epoch.specs.declared.next.Next.{Next}
use Rattle.roc_growth.specs.World.{GrownWorld}
use Rattle.roc_growth.specs.Run.{Stepped}
use Rattle.roc_report.specs.Line.{Line, End}
use Rattle.roc_replay.specs.declared.ended.Summary.{Summary}
use Rattle.roc_replay.specs.Ended.{IsReplayed}
use Rattle.roc_replay.specs.Report.{end_line, busy_in, report}

-- ---- summaries

answered_of : Line → ℕ
answered_of (End answered pending messages) = answered
answered_of _ = 0

pending_of : Line → ℕ
pending_of (End answered pending messages) = pending
pending_of _ = 0

messages_of : Line → ℕ
messages_of (End answered pending messages) = messages
messages_of _ = 0

abbrev summary : (answered pending messages busy : ℕ) → Summary
summary answered pending messages busy = record { answered = answered; pending = pending; messages = messages; busy = busy }

-- a summary is what its end line and its count of refused submissions say
same_summary : (s t : Summary) → End s.answered s.pending s.messages ≡ End t.answered t.pending t.messages → s.busy ≡ t.busy → s ≡ t
unfolding answered_of pending_of messages_of
same_summary s t e f =
    ap (λ (n : ℕ). summary n s.pending s.messages s.busy) (ap answered_of e)
    ∙ (ap (λ (n : ℕ). summary t.answered n s.messages s.busy) (ap pending_of e)
    ∙ (ap (λ (n : ℕ). summary t.answered t.pending n s.busy) (ap messages_of e)
    ∙ ap (λ (n : ℕ). summary t.answered t.pending t.messages n) f))

-- two replays with the same steps to the same world
pub one_report : (plan : Plan) (next : Option Next) (some other : List ℕ) (s t : Summary) (o n p q : Option (List ℕ)) (r : IsReplayed plan next some s o n) (z : IsReplayed plan next other t p q)
    → (r.run.steps ≡ z.run.steps) × (r.run.world ≡ z.run.world) → (r.lines ≡ z.lines) × (s ≡ t)
one_report plan next some other s t o n p q r z one =
    let reports : report r.run.steps r.run.world ≡ report z.run.steps z.run.world =
    ap (λ (steps : List Stepped). report steps r.run.world) one.0 ∙ ap (λ (w : GrownWorld). report z.run.steps w) one.1 in
    let lines : r.lines ≡ z.lines = r.run.is ∙ (reports ∙ sym z.run.is) in
    (lines, same_summary s t (sym r.end ∙ ap end_line one.1 ∙ z.end) (r.busy ∙ ap busy_in lines ∙ sym z.busy))
