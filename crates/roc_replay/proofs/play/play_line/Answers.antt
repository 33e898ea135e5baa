use Rattle.std.proofs.Common.{◌≡◌, false, option_copied, subst}
use Rattle.roc_growth.specs.Quiet.{messages_of}
use Rattle.roc_replay.specs.declared.asked.Wanted.{Wanted}
use Rattle.roc_replay.specs.declared.asked.Wanted.TheVariants as wanted
use Rattle.roc_replay.specs.BoundLine.{WantedFits}
use Rattle.roc_replay.specs.Inner.Closed.{wants_unsent}
use Rattle.roc_replay.proofs.AskedMessages.{is_there}
use Rattle.roc_replay.proofs.Sendable.{may_happen}
use Rattle.roc_replay.proofs.play.play_line.Goals as goal

pub play_event-requires-clause-event : goal.play_event-requires-clause-event
play_event-requires-clause-event c =
    let plan = c.args.plan.now in
    let next = option_copied c.args.next in
    let w = c.args.world.now in
    let asked : Wanted = wanted.Event c.in-Event.event in
    let fits : WantedFits plan next asked = subst (WantedFits plan next) c.in-Event.is c.requires.fits in
    let sent : wants_unsent asked (messages_of w.sent) ≡ false = subst (λ (a : Wanted). wants_unsent a (messages_of w.sent) ≡ false) c.in-Event.is c.requires.sent in
    may_happen plan next c.requires.next w c.requires.world c.requires.coords c.in-Event.event fits (is_there w asked sent)
