use Rattle.roc_grown.proofs.Plain.{plain_message, plain_submission, plain_tick}
use Rattle.roc_grown.proofs.Steps.{plain_step}
use Rattle.roc_grown.proofs.laws.without_growth.Goals as goal

pub returns-clause-servers : goal.returns-clause-servers
returns-clause-servers c plan s msg g r q first h handles reads = plain_step plan s h first r q handles reads

pub returns-clause-coords : goal.returns-clause-coords
returns-clause-coords c = plain_message

pub returns-clause-submissions : goal.returns-clause-submissions
returns-clause-submissions c = plain_submission

pub returns-clause-ticks : goal.returns-clause-ticks
returns-clause-ticks c = plain_tick
