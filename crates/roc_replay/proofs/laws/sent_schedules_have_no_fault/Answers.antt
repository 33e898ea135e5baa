use Rattle.roc_replay.proofs.Complete.{faultless}
use Rattle.roc_replay.proofs.Schedules.{one_schedule, not_blamed}
use Rattle.roc_replay.proofs.laws.sent_schedules_have_no_fault.Goals as goal

pub returns : goal.returns
returns c plan next schedule lines of sends number fault old new wrong =
    let unique = c.lines_are_unique.ensures.schedules in
    faultless plan next schedule lines of sends (one_schedule plan next unique)
    (λ text line what blamed is. not_blamed plan next unique c.texts_are_right_or_wrong.ensures.one_of_both text lines line what is blamed) number fault old new wrong
