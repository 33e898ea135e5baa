use Rattle.std.proofs.Common.{take}
use Rattle.roc_server_reach.specs.Inner.Words.{IsSetOf}
use Rattle.roc_server_reach.proofs.words.put_all.Given as goal

abbrev pub invariant-loop-name : goal.invariant-loop-name
invariant-loop-name l = IsSetOf (take l.name-index l.names) l.set
