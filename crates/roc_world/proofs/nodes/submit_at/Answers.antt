use Rattle.std.proofs.Common.{option_copied, Ok, Err}
use Rattle.roc_world.proofs.NodeSteps.{coord_submits}
use Rattle.roc_world.proofs.nodes.submit_at.Goals as goal

pub returns-in-Ok : goal.returns-in-Ok
returns-in-Ok c fails =
    coord_submits c.args.coords.now.items c.args.number c.index_mut-coord.result.now c.submit.new.self c.requires.exists c.index_mut-coord.ensures.value
    c.args.plan.now (option_copied c.args.next) c.args.proc c.args.args.now (Ok (c.in-Ok.id, c.switched.result)) c.args.outbox.now c.submit.new.outbox c.switched.ensures (c.in-Ok.ensures.step fails)

pub returns-in-Err : goal.returns-in-Err
returns-in-Err c fails =
    coord_submits c.args.coords.now.items c.args.number c.index_mut-coord.result.now c.submit.new.self c.requires.exists c.index_mut-coord.ensures.value
    c.args.plan.now (option_copied c.args.next) c.args.proc c.args.args.now (Err c.in-Err.fault) c.args.outbox.now c.submit.new.outbox tt (c.in-Err.ensures.step fails)
