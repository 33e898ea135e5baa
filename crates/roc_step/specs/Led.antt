-- What entries lead to: docs/PROTOCOL.md, "Start"
use Rattle.std.specs.Prelude.{List}
use Rattle.roc_sequence.specs.Lists.{Has}
use Rattle.roc_base.specs.declared.id.TxnId.{TxnId}
use Rattle.roc_base.specs.Edge.{Dependency}
use Rattle.roc_depgraph.specs.declared.known.KnownList.{KnownList}
use Rattle.roc_depgraph.specs.Deps.{Precedes, IsKnown}
use Rattle.roc_depgraph.specs.Reach.{ReachesOrIs}

-- an entry names u, or one from which u is reached over known lists
pub record IsLedTo (known : List KnownList) (edges : List Dependency) (u : TxnId) : Type 0 where
  pub entry : Dependency
  pub is : Has entry edges
  pub from : ReachesOrIs (Precedes known) u entry.from

-- and the list of u is known
abbrev pub IsKnownAndLedTo : List KnownList → List Dependency → TxnId → Type 0
IsKnownAndLedTo known edges u = IsKnown known u × IsLedTo known edges u
