use Rattle.roc_law_orders.proofs.Growth.{stays, inputs_found}
use Rattle.roc_law_orders.proofs.laws.runs_stay.Goals as goal

pub returns-clause-stays : goal.returns-clause-stays
returns-clause-stays c = stays

pub returns-clause-found : goal.returns-clause-found
returns-clause-found c = inputs_found
