use Rattle.std.proofs.Common.{◌≡◌, drop}
use Rattle.roc_sched.specs.Each.{each}
use Rattle.roc_sched.specs.Numbers.{integer_of}
use Rattle.roc_sched.proofs.Loops.{with_front}
use Rattle.roc_log.specs.Inner.Given.{views}
use Rattle.roc_log.proofs.reading.integers_of.Given as goal

abbrev pub invariant-loop-word : goal.invariant-loop-word
invariant-loop-word l = with_front l.numbers (each integer_of (views (drop l.word-index l.words))) ≡ each integer_of (views l.words)
