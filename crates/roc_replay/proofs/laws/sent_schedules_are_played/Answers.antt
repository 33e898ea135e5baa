use Rattle.roc_replay.specs.BoundLine.{played_forms, coordinators, last_program}
use Rattle.roc_replay.proofs.Playing.{are_coords}
use Rattle.roc_replay.proofs.Sendable.{played_there, played_sends}
use Rattle.roc_replay.proofs.Schedules.{asked_fit}
use Rattle.roc_replay.proofs.laws.sent_schedules_are_played.Goals as goal

pub returns-clause-played : goal.returns-clause-played
returns-clause-played c plan next schedule lines grows some of sends =
    played_there c.events_have_outcomes.ensures.outcome c.grown_worlds_fit.ensures.kept plan next grows lines
    (asked_fit plan next of.lines lines (c.lines_fit.ensures.schedules (played_forms next) (last_program plan next).shards schedule of.lines of.schedule) of.asks) sends
    (c.grown_worlds_fit.ensures.first plan next (coordinators next) some (are_coords next))

pub returns-clause-sent : goal.returns-clause-sent
returns-clause-sent c plan next lines steps w played = played_sends plan next (c.events_have_outcomes.ensures.only plan next) (c.report_is_one.ensures.run plan next) lines steps w played
