-- Known lists that travel along with a startok: docs/PROTOCOL.md, "Start"
use Rattle.std.specs.Prelude.{◌≡◌, List, map}
use Rattle.roc_base.specs.declared.id.TxnId.{TxnId}
use Rattle.roc_base.specs.Edge.{Dependency}
use Rattle.roc_depgraph.specs.declared.known.KnownList.{KnownList}
use Rattle.roc_depgraph.specs.Deps.{entries_of}
use Rattle.roc_msg.specs.Facts.{fitting}
use Rattle.roc_step.specs.New.{AreLedTo}

-- known lists of these transactions, as many as travel along
abbrev pub facts_of : List KnownList → List TxnId → List KnownList
facts_of known ids = fitting (map (λ u. record { of = u; edges = entries_of known u }) ids)

-- the known lists of what entries lead to over what is followed of them, as many as travel along
pub record AreFactsFor (known links : List KnownList) (edges : List Dependency) (facts : List KnownList) : Type 0 where
  pub reached : List TxnId
  pub led : AreLedTo links edges reached
  pub are : facts ≡ facts_of known reached
