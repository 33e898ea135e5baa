use Rattle.roc_law_protocol.proofs.Anew.{begins_anew}
use Rattle.roc_law_protocol.proofs.beginnings.answered_worlds_begin.Goals as goal

pub returns : goal.returns
returns c plan b coords steps w begins schemes run =
    begins_anew plan b begins schemes
    (λ S sound. c.machine_laws.ensures.log S b.store sound)
    (λ S sound. c.machine_laws.ensures.serial S b.store sound)
    c.machine_laws.ensures.stores coords steps w run
