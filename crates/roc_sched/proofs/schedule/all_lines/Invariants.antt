use Rattle.std.proofs.Common.{◌≡◌, ◌+◌, drop}
use Rattle.roc_sched.specs.Acts.{line_at}
use Rattle.roc_sched.specs.Inner.Reading.{views, line_items}
use Rattle.roc_sched.proofs.Items.{with_items}
use Rattle.roc_sched.proofs.schedule.all_lines.Given as goal

abbrev pub invariant-loop-index : goal.invariant-loop-index
invariant-loop-index l = with_items l.read.items (line_items (line_at l.forms l.shards) (l.index + 1) (views (drop l.index l.lines))) ≡ line_items (line_at l.forms l.shards) 1 (views l.lines)
