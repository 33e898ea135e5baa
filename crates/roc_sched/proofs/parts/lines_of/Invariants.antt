use Rattle.std.proofs.Common.{◌≡◌, ◌+◌, ◌-◌, ◌≤◌, ◌++◌, length, take}
use Rattle.roc_sched.specs.Lines.{lines_of}
use Rattle.roc_sched.specs.Schedule.{most_lines}
use Rattle.roc_sched.specs.Inner.Reading.{views}
use Rattle.roc_sched.proofs.parts.lines_of.Given as goal

abbrev pub invariant-loop-rest : goal.invariant-loop-rest
invariant-loop-rest l = record {
  taken : views l.lines.items ++ take (most_lines + 1 - length l.lines.items) (lines_of l.rest) ≡ take (most_lines + 1) (lines_of l.fn.text);
  few : length l.lines.items ≤ most_lines + 1;
}

abbrev pub decreases-loop-rest : goal.decreases-loop-rest
decreases-loop-rest l = length l.rest
