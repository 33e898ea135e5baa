use Rattle.std.proofs.lemmas.Result.{IfOk-weaker}
use Rattle.roc_world.specs.Inner.Parts.{world_of}
use Rattle.roc_world.proofs.Events.{starts_again}
use Rattle.roc_world.proofs.happen.start_again.Goals as goal

pub returns-in-Ok : goal.returns-in-Ok
returns-in-Ok c =
    let w = world_of c.args.parts.now in
    IfOk-weaker c.note_tick.result _ _
    (λ what h. (
      h.0,
      starts_again w c.restart_at_server.new.servers.items c.tick_server.new.servers.items c.args.shard c.in-Ok.switched c.new-outbox.result c.tick_server.new.outbox
          (world_of c.note_tick.new.parts) c.new-outbox.ensures.messages c.restart_at_server.ensures c.in-Ok.ensures h.1,
    ))
    c.note_tick.ensures
