use Rattle.roc_law_protocol.proofs.Liveness.{answered_gone}
use Rattle.roc_law_protocol.proofs.Answered.{submitted_late, numbers_kept, submitted_kept}
use Rattle.roc_law_protocol.proofs.beginnings.submissions_are_kept.Goals as goal

pub returns-clause-late : goal.returns-clause-late
returns-clause-late c plan b coords steps w begins schemes run =
    submitted_late plan b begins schemes (λ S sound. c.machine_laws.ensures.log S b.store sound) c.machine_laws.ensures.stores coords steps w run

pub returns-clause-numbers : goal.returns-clause-numbers
returns-clause-numbers c plan b coords steps w begins schemes run =
    numbers_kept plan b begins schemes (λ S sound. c.machine_laws.ensures.log S b.store sound) c.machine_laws.ensures.stores coords steps w run

pub returns-clause-submitted : goal.returns-clause-submitted
returns-clause-submitted c plan b coords steps w begins schemes run =
    submitted_kept plan b begins schemes (λ S sound. c.machine_laws.ensures.log S b.store sound) c.machine_laws.ensures.stores coords steps w run

pub returns-clause-gone : goal.returns-clause-gone
returns-clause-gone c plan b coords steps w begins schemes run =
    answered_gone plan b begins schemes (λ S sound. c.machine_laws.ensures.log S b.store sound) c.machine_laws.ensures.stores coords steps w run
