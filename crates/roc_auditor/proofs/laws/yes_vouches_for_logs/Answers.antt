use Rattle.roc_auditor.proofs.Vouching.{vouches_for_logs}
use Rattle.roc_auditor.proofs.laws.yes_vouches_for_logs.Goals as goal

pub returns : goal.returns
returns c = vouches_for_logs
