use Rattle.std.proofs.Common.{◌≡◌, ◌++◌, drop, map, filter}
use Rattle.roc_program.specs.Conflict.{are_in_conflict}
use Rattle.roc_report.specs.Checked.{Conflict}
use Rattle.roc_report.specs.Checked.{checked_lines_text}
use Rattle.roc_check.proofs.text.push_conflicts_of.Given as goal

abbrev pub invariant-loop-other : goal.invariant-loop-other
invariant-loop-other l =
    l.text.items ++ checked_lines_text l.workload (map (Conflict l.first) (filter (are_in_conflict l.workload l.first) (drop l.other-index l.others)))
    ≡ l.fn.text.items ++ checked_lines_text l.workload (map (Conflict l.first) (filter (are_in_conflict l.workload l.first) l.others))
