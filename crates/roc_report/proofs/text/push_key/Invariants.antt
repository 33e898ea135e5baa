use Rattle.std.proofs.Common.{◌≡◌, ◌++◌, take}
use Rattle.std.specs.String.{string_bytes}
use Rattle.roc_report.specs.Text.{key_text}
use Rattle.roc_report.proofs.text.push_key.Given as goal

abbrev pub invariant-loop-integer : goal.invariant-loop-integer
invariant-loop-integer l = string_bytes l.text ≡ string_bytes l.fn.text ++ key_text (take l.integer-index l.id)
