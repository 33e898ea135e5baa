use Rattle.roc_check.proofs.Added.{conflicts_added}
use Rattle.roc_check.proofs.text.push_conflicts.Goals as goal

pub loop-at-preserved : goal.loop-at-preserved
loop-at-preserved c =
    conflicts_added c.args.workload.now c.loop-at.text.items c.push_conflicts_of.new.text.items _ c.args.pieces.now c.loop-at.at (record { proc = 0; piece = 0 }) c.loop-at-test.true c.loop-at.invariant c.in_ok-push_conflicts_of.ensures
