use Rattle.roc_log.proofs.LogLemmas.{logs_are_one, faults_are_one}
use Rattle.roc_log.proofs.laws.logs_are_unique.Goals as goal

pub returns : goal.returns
returns c = record { logs = logs_are_one; faults = faults_are_one }
