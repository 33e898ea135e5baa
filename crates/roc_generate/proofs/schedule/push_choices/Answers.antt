use Rattle.roc_generate.proofs.Loops.{choice_added, state_choice}
use Rattle.roc_generate.proofs.schedule.push_choices.Goals as goal

pub loop-preserved : goal.loop-preserved
loop-preserved c = record {
  text = choice_added _ _ _ c.args.count c.loop.counter c.loop.draws.state _ c.loop-test.true c.in_ok-push_choice.ensures.text c.in_ok-push_choice.ensures.state c.loop.invariant.text;
  state = state_choice c.args.count c.loop.counter c.loop.draws.state _ _ c.loop-test.true c.in_ok-push_choice.ensures.state c.loop.invariant.state;
}
