use Rattle.std.proofs.Common.{◌≡◌, ◌++◌, map}
use Rattle.std.specs.List.{range_with_len}
use Rattle.roc_report.specs.Checked.{checked_lines_text}
use Rattle.roc_check.specs.Lines.{group_line}
use Rattle.roc_check.proofs.text.push_each_group.Given as goal

abbrev pub invariant-loop-number : goal.invariant-loop-number
invariant-loop-number l = l.text.items ≡ l.fn.text.items ++ checked_lines_text l.plan.program (map (group_line l.plan l.proc) (range_with_len 0 l.number))
