use Rattle.roc_log.proofs.Written.{log_is_read}
use Rattle.roc_log.proofs.laws.written_logs_are_read.Goals as goal

pub returns : goal.returns
returns c = log_is_read
