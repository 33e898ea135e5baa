use Rattle.roc_law_orders.proofs.OneByOne.{stand}
use Rattle.roc_law_orders.proofs.laws.groups_stand_one_by_one.Goals as goal

pub returns : goal.returns
returns c B O lawful = stand B lawful O
