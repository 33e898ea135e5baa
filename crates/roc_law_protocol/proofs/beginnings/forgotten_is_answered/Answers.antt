use Rattle.roc_law_protocol.proofs.Answered.{submitted_own}
use Rattle.roc_law_protocol.proofs.Forgotten as forgotten
use Rattle.roc_law_protocol.proofs.beginnings.forgotten_is_answered.Goals as goal

pub returns-clause-kept : goal.returns-clause-kept
returns-clause-kept c plan b coords steps w begins schemes run =
    forgotten.kept plan b begins schemes (λ S sound. c.machine_laws.ensures.log S b.store sound) c.machine_laws.ensures.stores coords steps w run

pub returns-clause-gone : goal.returns-clause-gone
returns-clause-gone c plan b coords steps w begins schemes run =
    forgotten.gone plan b begins schemes (λ S sound. c.machine_laws.ensures.log S b.store sound) c.machine_laws.ensures.stores coords steps w run

pub returns-clause-settled : goal.returns-clause-settled
returns-clause-settled c plan b coords steps w begins schemes run =
    forgotten.settled plan b begins schemes (λ S sound. c.machine_laws.ensures.log S b.store sound) c.machine_laws.ensures.stores coords steps w run

pub returns-clause-done : goal.returns-clause-done
returns-clause-done c plan b coords steps w begins schemes run =
    forgotten.done plan b begins schemes (λ S sound. c.machine_laws.ensures.log S b.store sound) c.machine_laws.ensures.stores coords steps w run

pub returns-clause-sent : goal.returns-clause-sent
returns-clause-sent c plan b coords steps w begins schemes run m t mark has is =
    let k = forgotten.sent plan b begins schemes (λ S sound. c.machine_laws.ensures.log S b.store sound) c.machine_laws.ensures.stores coords steps w run m t mark has is in
    (k.0, λ seq was. k.1 seq (submitted_own plan b begins schemes (λ S sound. c.machine_laws.ensures.log S b.store sound) c.machine_laws.ensures.stores coords steps w run (record { coord = t.coord; seq = seq }) was))
