use Rattle.roc_server_reach.proofs.RowWords.{row_and_column}
use Rattle.roc_server_reach.proofs.bit_rows.BitRows.end.Goals as goal

pub returns : goal.returns
returns c = row_and_column c.args.at c.args.self.now c.clear_row.new.self c.clear_column.new.self c.clear_row.ensures c.clear_column.ensures
