use Rattle.roc_law_protocol.proofs.Earlier.{taken_ordered, decided_ordered, starting_unordered}
use Rattle.roc_law_protocol.proofs.beginnings.left_out_is_earlier.Goals as goal

pub returns-clause-decided : goal.returns-clause-decided
returns-clause-decided c plan b coords steps w begins schemes run shard =
    decided_ordered plan b begins schemes (λ S sound. c.machine_laws.ensures.log S b.store sound) c.machine_laws.ensures.stores coords steps w run shard.0

pub returns-clause-taken : goal.returns-clause-taken
returns-clause-taken c plan b coords steps w begins schemes run x shard component t has taken member = taken_ordered plan component t member b coords steps w run x has taken.has

pub returns-clause-starting : goal.returns-clause-starting
returns-clause-starting c plan b coords steps w begins schemes run shard =
    starting_unordered plan b begins schemes (λ S sound. c.machine_laws.ensures.log S b.store sound) c.machine_laws.ensures.stores coords steps w run shard.0
