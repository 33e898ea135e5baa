use Rattle.roc_law_protocol.proofs.Forgotten.{vanished}
use Rattle.roc_law_protocol.proofs.beginnings.vanished_is_over.Goals as goal

pub returns : goal.returns
returns c plan b coords steps w begins schemes run =
    vanished plan b begins schemes (λ S sound. c.machine_laws.ensures.log S b.store sound) c.machine_laws.ensures.stores coords steps w run
