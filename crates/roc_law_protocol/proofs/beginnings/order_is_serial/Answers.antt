use Rattle.roc_law_protocol.proofs.Serial.{order_serial}
use Rattle.roc_law_protocol.proofs.beginnings.order_is_serial.Goals as goal

pub returns : goal.returns
returns c plan b coords steps w begins schemes run =
    order_serial plan b begins schemes
    (λ S sound. c.machine_laws.ensures.log S b.store sound)
    (λ S sound. c.machine_laws.ensures.serial S b.store sound)
    c.machine_laws.ensures.stores coords steps w run
