use Rattle.std.proofs.Common.{◌≡◌, ◌++◌, take}
use Rattle.std.specs.String.{string_bytes}
use Rattle.roc_report.specs.Checked.{cycle_text}
use Rattle.roc_report.proofs.check.push_cycle.Given as goal

abbrev pub invariant-loop-vertex : goal.invariant-loop-vertex
invariant-loop-vertex l = string_bytes l.text ≡ string_bytes l.fn.text ++ cycle_text l.workload (take l.vertex-index l.cycle)
