use Rattle.roc_generate.proofs.Loops.{call_added, state_call}
use Rattle.roc_generate.proofs.schedule.push_calls.Goals as goal

pub loop-number-preserved : goal.loop-number-preserved
loop-number-preserved c = record {
  text = call_added _ _ _ _ c.args.shards c.loop-number.number c.args.txns c.loop-number.draws.state _ _ c.loop-number-test.true c.in_ok-push_call.ensures.text c.in_ok-push_call.ensures.state
      c.in_ok-push_choices.ensures.text c.in_ok-push_choices.ensures.state c.loop-number.invariant.text;
  state = state_call c.args.txns c.loop-number.number c.loop-number.draws.state _ _ _ c.loop-number-test.true c.in_ok-push_call.ensures.state c.in_ok-push_choices.ensures.state c.loop-number.invariant.state;
}
