use Rattle.roc_law_protocol.proofs.Once.{run_told}
use Rattle.roc_law_protocol.proofs.beginnings.ids_are_told_once.Goals as goal

pub returns : goal.returns
returns c plan b coords steps w begins schemes run =
    run_told plan b begins schemes (λ S sound. c.machine_laws.ensures.log S b.store sound) c.machine_laws.ensures.stores coords steps w run
