-- Where answers go
use Rattle.std.specs.Prelude.{◌≡◌, List}
use Rattle.roc_base.specs.declared.node.Node.{Node}
use Rattle.roc_base.specs.declared.node.Node.TheVariants.{Coord}
use Rattle.roc_msg.specs.declared.msg.Msg.{Msg}
use Rattle.roc_msg.specs.declared.msg.Msg.TheVariants.{StartOk, CommitOk, ReadOk, Drained, Switched}
use Rattle.roc_audit.specs.declared.entry.Entry.{Entry}
use Rattle.roc_audit.specs.History.{WasSubmitted}

-- a startok, commitok or readok is of a submitted id, and goes to its coordinator; and there is no drained or switched
abbrev pub GoesHome : List Entry → Msg → Node → Type 0
GoesHome history (StartOk id group shard bound outs edges facts) to = WasSubmitted history id × (to ≡ Coord id.coord)
GoesHome history (CommitOk id shard outs) to = WasSubmitted history id × (to ≡ Coord id.coord)
GoesHome history (ReadOk id round group shard versions outs) to = WasSubmitted history id × (to ≡ Coord id.coord)
GoesHome history (Drained upto) to = ⊥
GoesHome history (Switched upto shard) to = ⊥
GoesHome history msg to = Unit {0}
