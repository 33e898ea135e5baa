use Rattle.roc_law_orders.specs.Orders.{one_by_one}
use Rattle.roc_law_orders.proofs.Agreement.{last_same}
use Rattle.roc_law_orders.proofs.Agreeing.{agrees}
use Rattle.roc_law_orders.proofs.OneByOne.{in_order, from_order}
use Rattle.roc_law_orders.proofs.laws.last_values_are_serial.Goals as goal

pub returns : goal.returns
returns c B start R O lawful real follows x to from =
    last_same B start R (one_by_one B O) (agrees B start R O lawful real follows) x
    (λ q i t. in_order B O q (to q i t) (real.are_groups q i))
    (λ q i t. let l = from_order B O q i in from q l.0 l.1 t)
