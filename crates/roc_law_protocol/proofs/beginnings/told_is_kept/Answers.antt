use Rattle.roc_law_protocol.proofs.Finals.{startok_kept}
use Rattle.roc_law_protocol.proofs.beginnings.told_is_kept.Goals as goal

pub returns : goal.returns
returns c plan b coords steps w begins schemes run shard =
    startok_kept plan b begins schemes (λ S sound. c.machine_laws.ensures.log S b.store sound) c.machine_laws.ensures.stores coords steps w run shard.0
