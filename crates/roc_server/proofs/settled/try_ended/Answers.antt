use Rattle.std.proofs.Common.{refl}
use Rattle.roc_server.specs.Inner.Parts.{state_of}
use Rattle.roc_server.proofs.TriedSteps.{can_release, hears_tried}
use Rattle.roc_server.proofs.settled.try_ended.Goals as goal

pub returns-clause-step : goal.returns-clause-step
returns-clause-step c =
    let old = c.args.parts.now in
    hears_tried c.args.shard old c.requires.idle c.args.coord c.args.mark c.hear.new.self (c.in_ok-hear.ensures.ok (state_of c.args.shard old) refl)

pub returns-clause-can : goal.returns-clause-can
returns-clause-can c =
    let old = c.args.parts.now in
    can_release (record old { lists = c.hear.new.self }) c.requires.sound.groups.same c.requires.idle.groups.starting (c.in_ok-hear.ensures.left old.groups.kept c.requires.sound.left)
