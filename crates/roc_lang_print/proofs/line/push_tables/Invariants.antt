use Rattle.std.proofs.Common.{◌≡◌, ◌++◌, map, take}
use Rattle.std.specs.List.{flat_map}
use Rattle.std.specs.String.{string_bytes}
use Rattle.roc_lang.specs.Tree.{table_tree}
use Rattle.roc_lang_print.specs.Canonical.{table_line}
use Rattle.roc_lang_print.proofs.line.push_tables.Given as goal

abbrev pub invariant-loop-table : goal.invariant-loop-table
invariant-loop-table l = string_bytes l.text ≡ string_bytes l.fn.text ++ flat_map table_line (map table_tree (take l.table-index l.tables))
