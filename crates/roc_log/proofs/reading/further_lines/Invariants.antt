use Rattle.std.proofs.Common.{◌≡◌, ◌+◌, drop, false}
use Rattle.roc_log.specs.Inner.Given.{views, lines_read}
use Rattle.roc_log.proofs.Items.{with_lines}
use Rattle.roc_log.proofs.reading.further_lines.Given as goal

abbrev pub invariant-loop-index : goal.invariant-loop-index
invariant-loop-index l = with_lines l.read (lines_read l.workload l.tag l.node l.ended (l.index + 2) (views (drop l.index l.lines))) ≡ lines_read l.workload l.tag l.node false 2 (views l.lines)
