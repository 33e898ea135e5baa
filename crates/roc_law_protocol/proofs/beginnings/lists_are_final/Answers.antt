use Rattle.roc_law_protocol.proofs.Finals.{known_final, sent_final, startoks_one}
use Rattle.roc_law_protocol.proofs.beginnings.lists_are_final.Goals as goal

pub returns-clause-known : goal.returns-clause-known
returns-clause-known c plan b coords steps w begins schemes run shard =
    known_final plan b begins schemes (λ S sound. c.machine_laws.ensures.log S b.store sound) c.machine_laws.ensures.stores coords steps w run shard.0

pub returns-clause-carried : goal.returns-clause-carried
returns-clause-carried c plan b coords steps w begins schemes run =
    sent_final plan b begins schemes (λ S sound. c.machine_laws.ensures.log S b.store sound) c.machine_laws.ensures.stores coords steps w run

pub returns-clause-one : goal.returns-clause-one
returns-clause-one c plan b coords steps w begins schemes run =
    startoks_one plan b begins schemes (λ S sound. c.machine_laws.ensures.log S b.store sound) c.machine_laws.ensures.stores coords steps w run
