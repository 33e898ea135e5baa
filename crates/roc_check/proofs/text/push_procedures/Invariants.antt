use Rattle.std.proofs.Common.{◌≡◌, ◌++◌}
use Rattle.std.specs.List.{flat_map, range_with_len}
use Rattle.roc_report.specs.Checked.{checked_lines_text}
use Rattle.roc_check.specs.Lines.{procedure_lines}
use Rattle.roc_check.proofs.text.push_procedures.Given as goal

abbrev pub invariant-loop-proc : goal.invariant-loop-proc
invariant-loop-proc l = l.text.items ≡ l.fn.text.items ++ checked_lines_text l.plan.program (flat_map (procedure_lines l.plan) (range_with_len 0 l.proc))
