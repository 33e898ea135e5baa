use Rattle.roc_law_protocol.proofs.Agree.{components_agree}
use Rattle.roc_law_protocol.proofs.Ordered.{taken_in_order}
use Rattle.roc_law_protocol.proofs.beginnings.servers_agree.Goals as goal

pub returns-clause-components : goal.returns-clause-components
returns-clause-components c plan b coords steps w begins schemes run =
    components_agree plan b begins schemes (λ S sound. c.machine_laws.ensures.log S b.store sound) c.machine_laws.ensures.stores coords steps w run

pub returns-clause-order : goal.returns-clause-order
returns-clause-order c plan b coords steps w begins schemes run =
    taken_in_order plan b begins schemes (λ S sound. c.machine_laws.ensures.log S b.store sound) (λ S sound. c.machine_laws.ensures.serial S b.store sound) c.machine_laws.ensures.stores coords steps w run
