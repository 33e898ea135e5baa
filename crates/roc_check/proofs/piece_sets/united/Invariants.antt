use Rattle.roc_check.proofs.PieceSets.{AreUnited}
use Rattle.roc_check.proofs.piece_sets.united.Given as goal

abbrev pub invariant-loop-at : goal.invariant-loop-at
invariant-loop-at l = AreUnited l.one l.other l.all l.at
