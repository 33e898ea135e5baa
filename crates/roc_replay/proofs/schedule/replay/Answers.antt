use Rattle.std.proofs.Common.{List, option_copied, refl, sym, subst}
use Rattle.roc_sched.specs.declared.fault.TextFault.{TextFault}
use Rattle.roc_replay.specs.declared.asked.BoundLine.{BoundLine}
use Rattle.roc_replay.specs.BoundLine.{IsScheduleOf}
use Rattle.roc_replay.specs.Inner.Reading.{IsBlamed}
use Rattle.roc_replay.specs.Pieces.{none_played}
use Rattle.roc_replay.proofs.Complete.{whole_end}
use Rattle.roc_replay.proofs.Schedules.{one_schedule, not_blamed}
use Rattle.roc_replay.proofs.schedule.replay.Goals as goal

pub returns-in-Err-At-clause-complete : goal.returns-in-Err-At-clause-complete
returns-in-Err-At-clause-complete g c lines of sends same room =
    let plan = c.args.plan.now in
    let next = option_copied c.args.next in
    let schedule = c.args.schedule.now in
    let is_blamed : TextFault → Type 0 = λ fault. IsBlamed plan next schedule fault in
    not_blamed plan next c.lines_are_unique.ensures.schedules c.texts_are_right_or_wrong.ensures.one_of_both schedule lines c.in-Err-At.line c.in-Err-At.what of
    (subst is_blamed c.in-Err-At.field-0-is c.in-Err-At.ensures.fault)

pub returns-clause-complete : goal.returns-clause-complete
returns-clause-complete g c lines of sends same room =
    let plan = c.args.plan.now in
    let next = option_copied c.args.next in
    let schedule = c.args.schedule.now in
    let is_schedule_of : List BoundLine → Type 0 = λ asked. IsScheduleOf plan next schedule asked in
    whole_end plan next schedule lines of sends (one_schedule plan next c.lines_are_unique.ensures.schedules) c.play.result _ _ _ _
    (c.play.ensures.ends schedule (subst is_schedule_of (sym c.as_slice.ensures) c.in-Ok.ensures.found)) c.play.ensures.sink same room

pub returns-clause-pieces : goal.returns-clause-pieces
returns-clause-pieces g c =
    let is_schedule_of : List BoundLine → Type 0 = λ asked. IsScheduleOf c.args.plan.now (option_copied c.args.next) c.args.schedule.now asked in
    c.play.ensures.pieces c.args.schedule.now (subst is_schedule_of (sym c.as_slice.ensures) c.in-Ok.ensures.found)

pub returns-in-Err-At-clause-pieces : goal.returns-in-Err-At-clause-pieces
returns-in-Err-At-clause-pieces g c = none_played _ refl refl

pub returns-in-Err-NoMemory-clause-pieces : goal.returns-in-Err-NoMemory-clause-pieces
returns-in-Err-NoMemory-clause-pieces g c = none_played _ refl refl
