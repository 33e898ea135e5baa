use Rattle.roc_law_protocol.proofs.Answered.{submitted_own, mark_answered, heard_answered}
use Rattle.roc_law_protocol.proofs.beginnings.ended_is_answered.Goals as goal

pub returns-clause-told : goal.returns-clause-told
returns-clause-told c plan b coords steps w begins schemes run m has coord mark is seq was =
    mark_answered plan b begins schemes (λ S sound. c.machine_laws.ensures.log S b.store sound) c.machine_laws.ensures.stores coords steps w run m has coord mark is seq
    (submitted_own plan b begins schemes (λ S sound. c.machine_laws.ensures.log S b.store sound) c.machine_laws.ensures.stores coords steps w run (record { coord = coord; seq = seq }) was)

pub returns-clause-heard : goal.returns-clause-heard
returns-clause-heard c plan b coords steps w begins schemes run n s there t was =
    heard_answered plan b begins schemes (λ S sound. c.machine_laws.ensures.log S b.store sound) c.machine_laws.ensures.stores coords steps w run n s there t
    (submitted_own plan b begins schemes (λ S sound. c.machine_laws.ensures.log S b.store sound) c.machine_laws.ensures.stores coords steps w run t was)
