use Rattle.roc_precedence.specs.Orders.{Told}
use Rattle.roc_precedence.proofs.Orders.{orders_are_one, orders_by_chains}
use Rattle.roc_precedence.proofs.laws.orders_depend_on_chains.Goals as goal

pub returns : goal.returns
returns c = record {
  same = λ test other. orders_by_chains (Told test) (Told other);
  one = λ test. orders_are_one (Told test);
}
