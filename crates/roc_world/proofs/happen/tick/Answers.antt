use Rattle.std.proofs.Common.{option_copied, sym, subst}
use Rattle.std.proofs.lemmas.Result.{IfOk-weaker}
use Rattle.roc_base.specs.declared.node.Node.{Node}
use Rattle.roc_growth.specs.declared.event.Event.TheVariants as event
use Rattle.roc_world.specs.Inner.Parts.{world_of, Leads}
use Rattle.roc_world.proofs.Events.{coord_ticks, server_ticks}
use Rattle.roc_world.proofs.happen.tick.Goals as goal

pub returns-in-Ok : goal.returns-in-Ok
returns-in-Ok c =
    let w = world_of c.args.parts.now in
    let next = option_copied c.args.next in
    IfOk-weaker c.note_tick.result _ _
    (λ what h. subst (λ (node : Node). Leads c.args.plan.now next w (event.Tick node) what (world_of c.note_tick.new.parts)) (sym c.in-Server.is)
    (server_ticks c.args.plan.now next w c.tick_server.new.servers.items c.in-Server.shard c.in-Ok.switched what c.new-outbox.result c.tick_server.new.outbox (world_of c.note_tick.new.parts) c.new-outbox.ensures.messages
    c.in-Ok.ensures h.0 h.1))
    c.note_tick.ensures

pub returns-in-Ok-tick_coord : goal.returns-in-Ok-tick_coord
returns-in-Ok-tick_coord c =
    let w = world_of c.args.parts.now in
    let next = option_copied c.args.next in
    IfOk-weaker c.note_tick-in-Ok-tick_coord.result _ _
    (λ what h. subst (λ (node : Node). Leads c.args.plan.now next w (event.Tick node) what (world_of c.note_tick-in-Ok-tick_coord.new.parts)) (sym c.in-Coord.is)
    (coord_ticks c.args.plan.now next w c.in-Coord.coord c.in-Ok-tick_coord.switched what c.tick_coord.new.coords.items c.new-outbox.result c.tick_coord.new.outbox (world_of c.note_tick-in-Ok-tick_coord.new.parts)
    c.new-outbox.ensures.messages c.in-Ok-tick_coord.ensures h.0 h.1))
    c.note_tick-in-Ok-tick_coord.ensures
