use Rattle.roc_precedence.specs.Orders.{Told}
use Rattle.roc_precedence.proofs.OneCycle.{cycles_are_one}
use Rattle.roc_precedence.proofs.laws.least_cycle_is_one.Goals as goal

pub returns : goal.returns
returns c = λ test. cycles_are_one (Told test)
