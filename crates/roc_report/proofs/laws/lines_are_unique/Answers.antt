use Rattle.roc_report.proofs.Lines.{one_list}
use Rattle.roc_report.proofs.laws.lines_are_unique.Goals as goal

pub returns : goal.returns
returns c program some others names ours theirs same = one_list program names some others ours theirs same
