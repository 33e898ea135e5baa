use Rattle.roc_generate.proofs.Loops.{account_added}
use Rattle.roc_generate.proofs.workload.push_accounts.Goals as goal

pub loop-place-preserved : goal.loop-place-preserved
loop-place-preserved c = account_added _ _ _ c.loop-place.place-counter c.args.shards c.loop-place-test.true c.in_ok-write.ensures.bytes c.loop-place.invariant
