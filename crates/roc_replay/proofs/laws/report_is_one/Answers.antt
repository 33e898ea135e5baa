use Rattle.std.proofs.Common.{List, map, sym, ap, ◌∙◌}
use Rattle.roc_replay.specs.declared.asked.BoundLine.{BoundLine}
use Rattle.roc_replay.proofs.Schedules.{one_schedule}
use Rattle.roc_replay.proofs.Playing.{one_played}
use Rattle.roc_replay.proofs.OneReport.{one_report}
use Rattle.roc_replay.proofs.laws.report_is_one.Goals as goal

pub returns-clause-run : goal.returns-clause-run
returns-clause-run c plan next lines others steps same w v asks p q = one_played plan next (c.step_is_one.ensures plan next) p q asks

pub returns-clause-schedules : goal.returns-clause-schedules
returns-clause-schedules c plan next some other lines of_some of_other s t o n p q r z =
    let one = one_schedule plan next c.lines_are_unique.ensures.schedules in
    let alike = one some r.run.asked lines r.run.of_schedule of_some ∙ sym (one other z.run.asked lines z.run.of_schedule of_other) in
    one_report plan next some other s t o n p q r z
    (one_played plan next (c.step_is_one.ensures plan next) r.run.played z.run.played (ap (λ (ls : List BoundLine). map (λ l. l.wanted) ls) alike))
