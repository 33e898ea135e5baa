use Rattle.std.proofs.Common.{rules, arith}
use Rattle.roc_server_reach.proofs.RowWords.{column_absent, column_cleared}
use Rattle.roc_server_reach.proofs.rows.clear_column.Goals as goal

pub returns-then-at-stale-clause-cleared : goal.returns-then-at-stale-clause-cleared
returns-then-at-stale-clause-cleared c = λ rows w. column_cleared rows c.args.stale.now c.args.at w c.put_bit.new.set (λ k. search rules) (λ k. search rules) c.put_bit.ensures.put

pub returns-else-at-stale-clause-cleared : goal.returns-else-at-stale-clause-cleared
returns-else-at-stale-clause-cleared c = λ rows w. column_absent rows c.args.stale.now c.args.at w (omega arith)
