use Rattle.roc_report.proofs.Distinct.{has_names}
use Rattle.roc_report.proofs.laws.programs_have_names.Goals as goal

pub returns : goal.returns
returns c = has_names
