use Rattle.std.proofs.Common.{◌≡◌, ◌++◌, map, take}
use Rattle.std.specs.List.{flat_map}
use Rattle.std.specs.String.{string_bytes}
use Rattle.roc_lang.specs.Tree.{init_tree}
use Rattle.roc_lang_print.specs.Canonical.{init_line}
use Rattle.roc_lang_print.proofs.line.push_inits.Given as goal

abbrev pub invariant-loop-init : goal.invariant-loop-init
invariant-loop-init l = string_bytes l.text ≡ string_bytes l.fn.text ++ flat_map init_line (map init_tree (take l.init-index l.inits))
