use Rattle.roc_server_reach.proofs.RowWords.{AreSweptBelow}
use Rattle.roc_server_reach.proofs.rows.sweep_for.Given as goal

abbrev pub invariant-loop-place : goal.invariant-loop-place
invariant-loop-place l = AreSweptBelow l.stale.items l.place l.fn.rows.items l.rows.items
