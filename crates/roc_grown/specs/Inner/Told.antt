-- A coordinator that has told something is told the same
use Rattle.std.specs.Prelude.{List, [], ◌∷◌, Option, Some, None}
use Rattle.roc_base.specs.declared.id.TxnId.{TxnId}
use Rattle.roc_base.specs.declared.node.Shard.{Shard}
use Rattle.roc_msg.specs.declared.outbox.Outgoing.{Outgoing}
use Rattle.roc_grown.specs.Server.{switched_to}

abbrev pub told_back : Shard → Option TxnId → List Outgoing
told_back shard None = []
told_back shard (Some upto) = switched_to shard upto ∷ []
