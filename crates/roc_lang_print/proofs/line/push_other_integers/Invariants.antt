use Rattle.std.proofs.Common.{◌≡◌, ◌++◌, map, take}
use Rattle.std.specs.List.{flat_map}
use Rattle.std.specs.String.{string_bytes}
use lib.Chars.{codes}
use Rattle.roc_lang.specs.Tree.{expression_tree}
use Rattle.roc_lang_print.specs.Canonical.{expression_text}
use Rattle.roc_lang_print.proofs.line.push_other_integers.Given as goal

abbrev pub invariant-loop-integer : goal.invariant-loop-integer
invariant-loop-integer l = string_bytes l.text ≡ string_bytes l.fn.text ++ flat_map (λ n. codes "," ++ expression_text n) (map expression_tree (take l.integer-index l.integers))
