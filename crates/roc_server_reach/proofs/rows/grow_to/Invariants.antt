use Rattle.std.proofs.Common.{suc, ◌-◌, vec_len}
use Rattle.roc_server_reach.specs.Inner.Rows.{AreSameRows}
use Rattle.roc_server_reach.proofs.rows.grow_to.Given as goal

abbrev pub invariant-grow : goal.invariant-grow
invariant-grow l = AreSameRows l.fn.rows.items l.rows.items

abbrev pub decreases-grow : goal.decreases-grow
decreases-grow l = suc l.at - vec_len l.rows
