use Rattle.std.proofs.Common.{◌∙◌, ap, rules}
use Rattle.roc_base.specs.Edges.{entry_at}
use Rattle.roc_base.proofs.Union.{entry_at-united}
use Rattle.roc_base.proofs.edges.Edges.unite.Goals as goal

pub returns-clause-united : goal.returns-clause-united
returns-clause-united c = search rules

pub returns-clause-found : goal.returns-clause-found
returns-clause-found c id = ap (entry_at id) (returns-clause-united c) ∙ entry_at-united id _
