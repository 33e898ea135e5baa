use Rattle.std.proofs.Common.{rules}
use Rattle.roc_server_table.proofs.RisingIds.{no_ids}
use Rattle.roc_server_table.proofs.table.ListTable.new.Goals as goal

pub returns-clause-decided : goal.returns-clause-decided
returns-clause-decided c = no_ids _ (search rules)
