use Rattle.roc_server_reach.proofs.RowWords.{no_rows, no_rows_within}
use Rattle.roc_server_reach.proofs.bit_rows.BitRows.new.Goals as goal

pub invariant_of-result : goal.invariant_of-result
invariant_of-result c = no_rows_within c.new.result.items c.new-2.result.items c.new.ensures.items c.new-2.ensures.items

pub returns : goal.returns
returns c = no_rows c.new.result.items c.new-2.result.items c.new.ensures.items
