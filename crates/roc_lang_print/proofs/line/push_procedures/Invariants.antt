use Rattle.std.proofs.Common.{◌≡◌, ◌++◌, map, take}
use Rattle.std.specs.List.{flat_map}
use Rattle.std.specs.String.{string_bytes}
use Rattle.roc_lang.specs.Tree.{procedure_tree}
use Rattle.roc_lang_print.specs.Canonical.{procedure_lines}
use Rattle.roc_lang_print.proofs.line.push_procedures.Given as goal

abbrev pub invariant-loop-procedure : goal.invariant-loop-procedure
invariant-loop-procedure l = string_bytes l.text ≡ string_bytes l.fn.text ++ flat_map procedure_lines (map procedure_tree (take l.procedure-index l.procedures))
