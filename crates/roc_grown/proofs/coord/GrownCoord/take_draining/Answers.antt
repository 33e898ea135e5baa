use Rattle.std.proofs.Common.{rules, ◌≤◌, ◌+◌}
use Rattle.roc_grown.proofs.Room.{room_left_behind}
use Rattle.roc_grown.proofs.coord.GrownCoord.take_draining.Goals as goal

pub tell_behind-requires-clause-room : goal.tell_behind-requires-clause-room
tell_behind-requires-clause-room c =
    let told = c.args.plan.now.program.shards in
    let both : c.args.own.now.program.shards + told ≤ c.reserve.new.self.room.messages = search rules in
    room_left_behind c.args.own.now c.self.inside.core c.args.msg.now c.in-Ok.answer c.handle.new.self c.reserve.new.self c.handle.new.outbox told c.in-Ok.ensures.step c.in-Ok.ensures.room both
