use Rattle.roc_law_protocol.proofs.Cells.{run_servers, cells_apart}
use Rattle.roc_law_protocol.proofs.beginnings.cells_are_in_their_place.Goals as goal

pub returns-clause-servers : goal.returns-clause-servers
returns-clause-servers c = run_servers

pub returns-clause-apart : goal.returns-clause-apart
returns-clause-apart c plan b coords steps w begins schemes run shard =
    cells_apart plan b begins schemes (λ S sound. c.machine_laws.ensures.log S b.store sound) c.machine_laws.ensures.stores coords steps w run shard.0
