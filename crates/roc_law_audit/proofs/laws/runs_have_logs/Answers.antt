use Rattle.roc_law_audit.proofs.Existing.{logs_there}
use Rattle.roc_law_audit.proofs.laws.runs_have_logs.Goals as goal

pub returns : goal.returns
returns c plan coords steps w run tag may = logs_there c.spelled_is_read.ensures plan coords run tag may
