use Rattle.roc_law_protocol.proofs.KeptOrders.{order_keeps}
use Rattle.roc_law_protocol.proofs.beginnings.order_keeps_what_ran.Goals as goal

pub returns : goal.returns
returns c plan b coords steps w begins schemes run =
    order_keeps plan b begins schemes
    (λ S sound. c.machine_laws.ensures.log S b.store sound)
    (λ S sound. c.machine_laws.ensures.serial S b.store sound)
    c.machine_laws.ensures.stores coords steps w run
