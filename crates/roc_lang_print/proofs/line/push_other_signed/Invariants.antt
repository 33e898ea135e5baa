use Rattle.std.proofs.Common.{◌≡◌, ◌++◌, take}
use Rattle.std.specs.List.{flat_map}
use Rattle.std.specs.String.{string_bytes}
use lib.Chars.{codes}
use Rattle.std.specs.Fmt.{signed_decimal}
use Rattle.roc_lang_print.proofs.line.push_other_signed.Given as goal

abbrev pub invariant-loop-integer : goal.invariant-loop-integer
invariant-loop-integer l = string_bytes l.text ≡ string_bytes l.fn.text ++ flat_map (λ n. codes "," ++ signed_decimal n) (take l.integer-index l.integers)
