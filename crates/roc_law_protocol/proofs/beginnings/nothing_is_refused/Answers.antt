use Rattle.roc_law_protocol.proofs.Ends.{server_takes, coordinator_ignores}
use Rattle.roc_law_protocol.proofs.beginnings.nothing_is_refused.Goals as goal

pub returns-clause-servers : goal.returns-clause-servers
returns-clause-servers c plan b coords steps w begins schemes run =
    server_takes plan b begins schemes (λ S sound. c.machine_laws.ensures.log S b.store sound) c.machine_laws.ensures.stores coords steps w run

pub returns-clause-coordinators : goal.returns-clause-coordinators
returns-clause-coordinators c plan b coords steps w begins schemes run =
    coordinator_ignores plan b begins schemes (λ S sound. c.machine_laws.ensures.log S b.store sound) c.machine_laws.ensures.stores coords steps w run
