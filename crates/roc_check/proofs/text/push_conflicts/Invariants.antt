use Rattle.std.proofs.Common.{◌≡◌, ◌++◌, drop}
use Rattle.roc_check.specs.Lines.{conflict_lines}
use Rattle.roc_report.specs.Checked.{checked_lines_text}
use Rattle.roc_check.proofs.text.push_conflicts.Given as goal

abbrev pub invariant-loop-at : goal.invariant-loop-at
invariant-loop-at l =
    l.text.items ++ checked_lines_text l.workload (conflict_lines l.workload (drop l.at l.pieces))
    ≡ l.fn.text.items ++ checked_lines_text l.workload (conflict_lines l.workload l.pieces)
