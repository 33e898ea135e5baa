-- what is asked so far and what is left is all, and the lines so far fit
use Rattle.std.proofs.Common.{◌≡◌, drop, take}
use Rattle.roc_sched.specs.Each.{each}
use Rattle.roc_sched.specs.Schedule.{item_of}
use Rattle.roc_sched.proofs.Loops.{with_front}
use Rattle.roc_replay.specs.BoundLine.{asked_by}
use Rattle.roc_replay.specs.Inner.Reading.{DoFit}
use Rattle.roc_replay.proofs.asking.all_asked.Given as goal

abbrev pub invariant-loop-line : goal.invariant-loop-line
invariant-loop-line l = record {
  asks : with_front l.asked (each (λ line. item_of (asked_by l.plan.program line)) (drop l.line-index l.lines)) ≡ each (λ line. item_of (asked_by l.plan.program line)) l.lines;
  fit : DoFit l.plan.program (take l.line-index l.lines);
}
