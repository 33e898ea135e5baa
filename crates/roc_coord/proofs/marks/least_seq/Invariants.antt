use Rattle.std.proofs.Common.{◌≡◌, drop}
use Rattle.roc_coord.specs.Marks.{least_seq}
use Rattle.roc_coord.proofs.marks.least_seq.Given as goal

-- what is left, from here, leads where all leads from the start
abbrev pub invariant-loop-id : goal.invariant-loop-id
invariant-loop-id l = least_seq (drop l.id-index l.ids) l.least ≡ least_seq l.ids l.next
