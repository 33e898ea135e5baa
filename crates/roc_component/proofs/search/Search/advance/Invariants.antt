use Rattle.std.proofs.Common.{List}
use Rattle.roc_component.specs.Inner.Search.{IsSearchOf, weight}
use Rattle.roc_base.specs.declared.id.TxnId.{TxnId}
use Rattle.roc_depgraph.specs.declared.known.KnownList.{KnownList}
use Rattle.roc_component.proofs.search.Search.advance.Given as goal

abbrev pub invariant-steps : goal.invariant-steps
invariant-steps l = (known : List KnownList) (S : List TxnId) → IsSearchOf known S l.met l.initial.self → IsSearchOf known S l.met l.self

abbrev pub decreases-steps : goal.decreases-steps
decreases-steps l = weight l.self.path.items
