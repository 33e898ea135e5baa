use Rattle.std.proofs.Common.{◌∙◌, sym, refl}
use Rattle.roc_server.specs.Inner.Parts.{state_of}
use Rattle.roc_server.proofs.GivenOut.{given_at_once, given_fits, given_step, let_go_fits}
use Rattle.roc_server.proofs.handling.take_ready.Goals as goal

pub returns-in-Some-clause-step : goal.returns-in-Some-clause-step
returns-in-Some-clause-step c plan shard msg fits ready =
    given_step plan shard c.args.parts.now c.finish.new.parts c.args.views.now c.finish.new.views c.args.ahead.now _ (sym c.in-Some.is ∙ c.take.ensures.value) c.finish.result c.args.outbox.now c.finish.new.outbox
    c.finish.ensures.answer c.finish.ensures.state c.finish.ensures.views fits msg ready c.finish.ensures.sent

pub returns-in-Some-clause-fits : goal.returns-in-Some-clause-fits
returns-in-Some-clause-fits c plan shard fits =
    given_fits plan shard c.args.parts.now c.finish.new.parts c.args.views.now c.finish.new.views c.args.ahead.now _ (sym c.in-Some.is ∙ c.take.ensures.value) c.finish.result c.args.outbox.now c.finish.new.outbox
    c.finish.ensures.answer c.finish.ensures.state c.finish.ensures.views fits _ c.take.ensures.after

pub returns-clause-step : goal.returns-clause-step
returns-clause-step c plan shard msg fits ready =
    given_at_once plan shard c.args.parts.now c.args.views.now c.args.ahead.now (sym c.in-None.is ∙ c.take.ensures.value) c.requires.held msg c.args.outbox.now c.foreign.result c.foreign.ensures ready

pub returns-clause-fits : goal.returns-clause-fits
returns-clause-fits c plan shard fits =
    let_go_fits plan shard c.args.parts.now c.args.views.now _ (state_of shard c.args.parts.now) c.take.ensures.after refl fits.0 fits.1
