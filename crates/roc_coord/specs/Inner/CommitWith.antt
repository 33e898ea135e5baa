-- A commit of what is at hand
use Rattle.std.specs.Prelude.{List}
use Rattle.roc_base.specs.declared.id.TxnId.{TxnId}
use Rattle.roc_base.specs.declared.node.Shard.{Shard}
use Rattle.roc_base.specs.declared.node.Node.TheVariants.{Server}
use Rattle.roc_base.specs.Edge.{Dependency}
use Rattle.roc_depgraph.specs.declared.known.KnownList.{KnownList}
use Rattle.roc_msg.specs.declared.msg.Msg.TheVariants.{Commit}
use Rattle.roc_msg.specs.declared.outbox.Outgoing.{Outgoing}

abbrev pub commit_with : TxnId → List Dependency → List KnownList → Shard → Outgoing
commit_with id edges facts shard = record { to = Server shard; msg = Commit id edges facts }
