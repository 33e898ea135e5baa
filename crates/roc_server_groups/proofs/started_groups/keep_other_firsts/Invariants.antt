use Rattle.std.proofs.Common.{take}
use Rattle.roc_server_groups.proofs.FirstGroups.{AreWithout}
use Rattle.roc_server_groups.proofs.started_groups.keep_other_firsts.Given as goal

abbrev pub invariant-loop-id : goal.invariant-loop-id
invariant-loop-id l = AreWithout (take l.id-index l.ids) l.initial.firsts.entries l.firsts.entries
