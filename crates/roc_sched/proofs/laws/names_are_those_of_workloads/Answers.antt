use Rattle.roc_sched.proofs.NameLemmas.{name_parts, parts_name}
use Rattle.roc_sched.proofs.laws.names_are_those_of_workloads.Goals as goal

pub returns : goal.returns
returns c = record { word = name_parts; name = parts_name }
