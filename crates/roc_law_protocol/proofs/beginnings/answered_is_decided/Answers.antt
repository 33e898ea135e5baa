use Rattle.roc_law_protocol.proofs.Answered.{answered_decided}
use Rattle.roc_law_protocol.proofs.beginnings.answered_is_decided.Goals as goal

pub returns : goal.returns
returns c plan b coords steps w begins schemes run t reply h shard =
    answered_decided plan b begins schemes (λ S sound. c.machine_laws.ensures.log S b.store sound) c.machine_laws.ensures.stores coords steps w run t reply h shard.0
