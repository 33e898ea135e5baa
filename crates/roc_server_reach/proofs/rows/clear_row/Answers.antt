use Rattle.std.proofs.Common.{arith}
use Rattle.roc_server_reach.proofs.RowWords.{row_absent, row_cleared, row_keeps_within}
use Rattle.roc_server_reach.proofs.rows.clear_row.Goals as goal

pub returns-then-at-len-clause-cleared : goal.returns-then-at-len-clause-cleared
returns-then-at-len-clause-cleared c = row_cleared c.args.rows.now.items c.args.at c.clear.new.self c.clear.ensures.items (omega arith)

pub returns-then-at-len-clause-within : goal.returns-then-at-len-clause-within
returns-then-at-len-clause-within c = row_keeps_within c.args.rows.now.items c.args.at c.clear.new.self c.clear.ensures.items (omega arith)

pub returns-else-at-len-clause-cleared : goal.returns-else-at-len-clause-cleared
returns-else-at-len-clause-cleared c = row_absent c.args.rows.now.items c.args.at (omega arith)
