use Rattle.std.proofs.Common.{◌≡◌, subst}
use Rattle.roc_server.specs.Inner.Held.{serving}
use Rattle.roc_server.specs.State.{Serving}
use Rattle.roc_step.specs.State.{ServerStep}
use Rattle.roc_step.specs.Step.{Handles}
use Rattle.roc_server.proofs.GivenOut.{room_to_take, room_when_ready}
use Rattle.roc_server.proofs.server.Server.ready.Goals as goal

pub returns-clause-answer : goal.returns-clause-answer
returns-clause-answer c =
    subst (λ (v : Serving). (r : ServerStep) × Handles c.args.plan.now v.state c.args.msg.now r × (r.answer ≡ c.in-Ok.handled)) c.self.view_is c.in-Ok.ensures.answer

pub returns-clause-room : goal.returns-clause-room
returns-clause-room c = room_when_ready (serving c.self.inside.shard c.ready.new.parts c.ready.new.views c.ready.new.ahead) c.ready.new.outbox c.args.msg.now c.in-Ok.ensures.ready

pub returns-clause-takes : goal.returns-clause-takes
returns-clause-takes c = room_to_take (serving c.self.inside.shard c.ready.new.parts c.ready.new.views c.ready.new.ahead) c.ready.new.outbox c.args.msg.now c.in-Ok.ensures.ready
