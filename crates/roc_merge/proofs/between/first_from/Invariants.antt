use Rattle.std.proofs.Common.{ℕ, ◌<◌, length}
use Rattle.roc_program.specs.Pieces.{pieces_in}
use Rattle.roc_merge.specs.Inner.Tables.{IsClearBy}
use Rattle.roc_merge.proofs.between.first_from.Given as goal

abbrev pub invariant-loop-q : goal.invariant-loop-q
invariant-loop-q l = (b c : ℕ) → b < l.q → c < length (pieces_in l.workload l.proc) → IsClearBy l.workload l.proc l.contended l.flow l.p b c
