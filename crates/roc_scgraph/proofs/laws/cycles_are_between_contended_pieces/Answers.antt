use Rattle.roc_scgraph.proofs.Contended.{only, each}
use Rattle.roc_scgraph.proofs.laws.cycles_are_between_contended_pieces.Goals as goal

pub returns-clause-only : goal.returns-clause-only
returns-clause-only c = only

pub returns-clause-each : goal.returns-clause-each
returns-clause-each c = each
