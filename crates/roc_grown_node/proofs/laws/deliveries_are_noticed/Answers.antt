use Rattle.roc_grown_node.proofs.Judged.{delivered_file, delivered_noticed}
use Rattle.roc_grown_node.proofs.laws.deliveries_are_noticed.Goals as goal

pub returns-clause-file : goal.returns-clause-file
returns-clause-file c = delivered_file

pub returns-clause-noticed : goal.returns-clause-noticed
returns-clause-noticed c = delivered_noticed
