-- A choice that finds no message changes nothing
use Rattle.std.proofs.Common.{◌≡◌, ℕ, ◌+◌, List, [], ◌∷◌, ◌++◌, length, Option, None, refl, sym, ap, subst, ◌∙◌, arith}
use Rattle.roc_sequence.proofs.Fronts.{no_rest}
use Rattle.roc_msg.specs.declared.msg.Envelope.{Envelope}
use Rattle.roc_plan.specs.Groups.{Plan}
use Rattle.roc_epoch.specs.declared.next.Next.{Next}
use Rattle.roc_growth.specs.Happens.{undecided}
use Rattle.roc_growth.specs.Quiet.{messages_of}
use Rattle.roc_growth.specs.World.{GrownWorld}
use Rattle.roc_growth.specs.declared.event.Seen.TheVariants as seen
use Rattle.roc_report.specs.Line.{Nothing}
use Rattle.roc_report.specs.ReportLine.{HaveSmallNumbers}
use Rattle.roc_report.specs.Text.{lines_text}
use Rattle.roc_replay.specs.BoundLine.{last_program}
use Rattle.roc_replay.specs.Played.{IsPlayedLine}
use Rattle.roc_replay.specs.Report.{send_lines}

pub nothing_played : (plan : Plan) (next : Option Next) (w : GrownWorld) (text : List ℕ) → text ≡ lines_text (last_program plan next) (Nothing ∷ []) → IsPlayedLine plan next None w w text 0
nothing_played plan next w text is =
    let sent = messages_of w.sent in
    record {
      outcome = undecided seen.Done w;
      transition = refl;
      world = refl;
      shows = is ∙ ap (λ (rest : List Envelope). lines_text (last_program plan next) (Nothing ∷ (send_lines (length sent + 1) rest ++ []))) (sym (no_rest sent (length sent) (omega arith)));
      small = subst (λ (rest : List Envelope). HaveSmallNumbers (Nothing ∷ (send_lines (length sent + 1) rest ++ []))) (sym (no_rest sent (length sent) (omega arith))) (tt, tt);
      refused = refl;
    }
