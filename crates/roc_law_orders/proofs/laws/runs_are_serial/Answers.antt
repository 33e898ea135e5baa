use Rattle.roc_law_orders.specs.Orders.{one_by_one}
use Rattle.roc_law_orders.proofs.Agreement.{agree}
use Rattle.roc_law_orders.proofs.Agreeing.{agrees}
use Rattle.roc_law_orders.proofs.OneByOne.{in_order}
use Rattle.roc_law_orders.proofs.laws.runs_are_serial.Goals as goal

pub returns : goal.returns
returns c B start R O lawful real follows r i h =
    agree B start R (one_by_one B O) (agrees B start R O lawful real follows) r i (in_order B O r h (real.are_groups r i))
