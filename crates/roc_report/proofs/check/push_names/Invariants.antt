use Rattle.std.proofs.Common.{◌≡◌, ◌++◌, take}
use Rattle.std.specs.String.{string_bytes}
use Rattle.roc_report.specs.Checked.{names_text}
use Rattle.roc_report.proofs.check.push_names.Given as goal

abbrev pub invariant-loop-piece : goal.invariant-loop-piece
invariant-loop-piece l = string_bytes l.text ≡ string_bytes l.fn.text ++ names_text l.workload l.proc (take l.piece-index l.pieces)
