use Rattle.roc_law_log.proofs.SharedOut.{elsewhere, does_same, same_cells}
use Rattle.roc_law_log.proofs.laws.stores_are_shared_out.Goals as goal

pub returns-clause-elsewhere : goal.returns-clause-elsewhere
returns-clause-elsewhere c = elsewhere

pub returns-clause-same : goal.returns-clause-same
returns-clause-same c = does_same

pub returns-clause-cells : goal.returns-clause-cells
returns-clause-cells c = same_cells
