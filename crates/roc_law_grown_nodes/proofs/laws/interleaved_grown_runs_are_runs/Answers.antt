use Rattle.roc_law_grown_nodes.proofs.GrownSides.{all_ran}
use Rattle.roc_law_grown_nodes.proofs.laws.interleaved_grown_runs_are_runs.Goals as goal

pub returns-clause-servers : goal.returns-clause-servers
returns-clause-servers c N moves all r shard n there = (all_ran N r).0 shard n there

pub returns-clause-coords : goal.returns-clause-coords
returns-clause-coords c N moves all r number place there = (all_ran N r).1 number place there
