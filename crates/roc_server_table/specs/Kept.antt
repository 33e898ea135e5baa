-- The lists that a table holds: docs/PROTOCOL.md, "Server" and "Forgetting"
use Rattle.std.specs.Prelude.{List}
use Rattle.roc_base.specs.declared.id.TxnId.{TxnId}
use Rattle.roc_depgraph.specs.declared.known.KnownList.{KnownList}

-- the lists as they came, in that order, what is followed of each, and which transactions are marked as decided, by id rising
pub record TableLists : Type 0 where
  pub known : List KnownList
  pub links : List KnownList
  pub decided : List TxnId
