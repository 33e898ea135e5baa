use Rattle.std.proofs.Common.{option_copied}
use Rattle.std.proofs.lemmas.Result.{IfOk-weaker}
use Rattle.roc_world.specs.Inner.Parts.{world_of}
use Rattle.roc_world.proofs.Events.{coord_drains}
use Rattle.roc_world.proofs.happen.drain.Goals as goal

pub returns-in-Ok : goal.returns-in-Ok
returns-in-Ok c =
    IfOk-weaker c.note_drain.result _ _
    (λ what h. coord_drains c.args.plan.now (option_copied c.args.next) (world_of c.args.parts.now) c.args.coord c.requires.event.0 c.in-Ok.switched what c.drain_at.new.coords.items c.new-outbox.result c.drain_at.new.outbox
    (world_of c.note_drain.new.parts) c.new-outbox.ensures.messages c.in-Ok.ensures h.0 h.1)
    c.note_drain.ensures
