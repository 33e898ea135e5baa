-- What is read of a message: docs/PROTOCOL.md, "Messages"
use Rattle.std.specs.Prelude.{ℕ, Option, Some, None}
use Rattle.roc_base.specs.declared.id.TxnId.{TxnId}
use Rattle.roc_msg.specs.declared.msg.Msg.{Msg}
use Rattle.roc_msg.specs.declared.msg.Msg.TheVariants.{Start, StartOk, Commit, CommitOk, Fetch, Known, Stop, Ended, Settled, Read, ReadOk, Drained, Switched}

-- the transaction that a message is of
abbrev pub id_of : Msg → Option TxnId
id_of (Start id proc group args inputs) = Some id
id_of (StartOk id group shard bound outs edges facts) = Some id
id_of (Commit id edges facts) = Some id
id_of (CommitOk id shard outs) = Some id
id_of (Fetch id asker) = Some id
id_of (Known id edges) = Some id
id_of (Settled id below) = Some id
id_of (Read id round proc group args) = Some id
id_of (ReadOk id round group shard versions outs) = Some id
id_of (Ended coord below) = None
id_of (Drained upto) = None
id_of (Switched upto shard) = None
id_of Stop = None

-- the number of a message's kind
abbrev pub kind_of : Msg → ℕ
kind_of (Start id proc group args inputs) = 1
kind_of (StartOk id group shard bound outs edges facts) = 2
kind_of (Commit id edges facts) = 3
kind_of (CommitOk id shard outs) = 4
kind_of (Fetch id asker) = 5
kind_of (Known id edges) = 6
kind_of Stop = 7
kind_of (Ended coord below) = 8
kind_of (Settled id below) = 9
kind_of (Read id round proc group args) = 10
kind_of (ReadOk id round group shard versions outs) = 11
kind_of (Drained upto) = 12
kind_of (Switched upto shard) = 13
