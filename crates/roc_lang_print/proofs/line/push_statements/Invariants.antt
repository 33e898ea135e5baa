use Rattle.std.proofs.Common.{◌≡◌, ◌++◌, map, take}
use Rattle.std.specs.List.{flat_map}
use Rattle.std.specs.String.{string_bytes}
use Rattle.roc_lang.specs.Tree.{statement_tree}
use Rattle.roc_lang_print.specs.Canonical.{statement_line}
use Rattle.roc_lang_print.proofs.line.push_statements.Given as goal

abbrev pub invariant-loop-statement : goal.invariant-loop-statement
invariant-loop-statement l = string_bytes l.text ≡ string_bytes l.fn.text ++ flat_map statement_line (map statement_tree (take l.statement-index l.statements))
