-- Lists by the ids that they are kept under
use Rattle.std.specs.Prelude.{List, map}
use Rattle.roc_base.specs.declared.id.TxnId.{TxnId}
use Rattle.roc_base.specs.Edge.{Dependency}
use Rattle.roc_depgraph.specs.declared.known.KnownList.{KnownList}

abbrev pub known_by : List (TxnId × List Dependency) → List KnownList
known_by entries = map (λ e. record { of = e.0; edges = e.1 }) entries
