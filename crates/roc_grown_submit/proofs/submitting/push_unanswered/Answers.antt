use Rattle.std.proofs.lemmas.List.{get_or_default}
use Rattle.roc_grown_submit.proofs.submitting.push_unanswered.Goals as goal
use Rattle.roc_node_submit.proofs.Closing.{unanswered_more}

pub loop-id-preserved : goal.loop-id-preserved
loop-id-preserved c = unanswered_more _ _ _ _ _ _ c.loop-id-test.true (get_or_default c.args.ids.now c.loop-id.id-index _ _ c.loop-id-test.true) c.loop-id.invariant c.in_ok-push_one.ensures
