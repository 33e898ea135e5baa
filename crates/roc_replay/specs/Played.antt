-- A schedule that is played: docs/FORMATS.md, "Schedule", and docs/PROTOCOL.md, "World"
use Rattle.std.specs.Prelude.{◌≡◌, ℕ, List, [], ◌∷◌, ◌++◌, Option}
use Rattle.roc_plan.specs.Groups.{Plan}
use Rattle.roc_epoch.specs.declared.next.Next.{Next}
use Rattle.roc_growth.specs.declared.event.Event.{Event}
use Rattle.roc_growth.specs.World.{GrownWorld, first_grown_world}
use Rattle.roc_growth.specs.Happens.{Outcome}
use Rattle.roc_growth.specs.Run.{Stepped, Transition}
use Rattle.roc_growth.specs.Quiet.{messages_of}
use Rattle.roc_report.specs.ReportLine.{HaveSmallNumbers}
use Rattle.roc_report.specs.Text.{lines_text}
use Rattle.roc_replay.specs.declared.asked.BoundLine.{BoundLine}
use Rattle.roc_replay.specs.BoundLine.{coordinators, last_program, event_in, AsksForSent}
use Rattle.roc_replay.specs.Report.{first_lines, step_lines, busy_in}

-- the lines were played, one after another from the first world on: each has a step, of the event that it asks for in the world before it,
-- and they lead to w
pub data IsPlayed (plan : Plan) (next : Option Next) : List BoundLine → List Stepped → GrownWorld → Type 0 where
  begun : IsPlayed plan next [] [] (first_grown_world plan (coordinators next))
  goes_on : {lines : List BoundLine} {steps : List Stepped} {w : GrownWorld} (line : BoundLine) (o : Outcome) → IsPlayed plan next lines steps w → Transition plan next w (event_in w line.wanted) o
      → IsPlayed plan next (lines ++ line ∷ []) (steps ++ (record { event = event_in w line.wanted; outcome = o }) ∷ []) o.world

-- each message that a line names was sent, to the server that is to stop at it where one is, in the world to which the lines before it lead
pub record AsksOnlySent (plan : Plan) (next : Option Next) (lines : List BoundLine) : Type 0 where
  pub each :
      (before : List BoundLine) (line : BoundLine) (behind : List BoundLine) (steps : List Stepped) (w : GrownWorld) → lines ≡ before ++ line ∷ behind
      → IsPlayed plan next before steps w → AsksForSent w line.wanted

-- one line was played: its event, or none, led from the world before to the world after, and this is the text of its lines, whose numbers have
-- at most 64 bits, and so many of which say that a submission was refused as busy
pub record IsPlayedLine (plan : Plan) (next : Option Next) (e : Option Event) (before after : GrownWorld) (text : List ℕ) (busy : ℕ) : Type 0 where
  pub outcome : Outcome
  pub transition : Transition plan next before e outcome
  pub world : outcome.world ≡ after
  pub shows : text ≡ lines_text (last_program plan next) (step_lines (messages_of before.sent) (record { event = e; outcome = outcome }))
  pub small : HaveSmallNumbers (step_lines (messages_of before.sent) (record { event = e; outcome = outcome }))
  pub refused : busy ≡ busy_in (first_lines e outcome.seen)
