use Rattle.std.proofs.Common.{◌≡◌, ◌-◌}
use Rattle.roc_lang.specs.Grammar.{standard, comma}
use Rattle.roc_lang_parse.specs.Inner.Views.{token_views}
use Rattle.roc_lang_parse.specs.Parts.{has_mark, with_front, many_at, behind_comma_at, separated_behind, signed_at}
use Rattle.roc_lang_parse.proofs.declaration.signed_behind.Given as goal

abbrev pub invariant-loop : goal.invariant-loop
invariant-loop l = with_front l.integers.items (many_at (has_mark comma) (behind_comma_at signed_at) (standard.ids - 1 - l.counter) (token_views l.rest)) ≡ separated_behind signed_at l.fn.first (standard.ids - 1) (token_views l.tokens)
