use Rattle.roc_law_protocol.proofs.KeptOrders.{kept_replies, kept_witness}
use Rattle.roc_law_protocol.proofs.beginnings.kept_orders_are_serial.Goals as goal

pub returns-clause-replies : goal.returns-clause-replies
returns-clause-replies c plan b coords steps w begins schemes run =
    kept_replies plan b begins schemes
    (λ S sound. c.machine_laws.ensures.log S b.store sound)
    (λ S sound. c.machine_laws.ensures.serial S b.store sound)
    c.machine_laws.ensures.stores coords steps w run

pub returns-clause-witness : goal.returns-clause-witness
returns-clause-witness c plan b coords steps w begins schemes run O keeps =
    kept_witness plan b begins schemes
    (λ S sound. c.machine_laws.ensures.log S b.store sound)
    (λ S sound. c.machine_laws.ensures.serial S b.store sound)
    c.machine_laws.ensures.stores coords steps w run
    O keeps (c.order_is_serial.ensures plan b coords steps w begins schemes run)
