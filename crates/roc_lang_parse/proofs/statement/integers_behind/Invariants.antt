use Rattle.std.proofs.Common.{◌≡◌, ◌-◌, map}
use Rattle.roc_lang.specs.Grammar.{standard, comma}
use Rattle.roc_lang.specs.Tree.{expression_tree}
use Rattle.roc_lang_parse.specs.Inner.Views.{token_views}
use Rattle.roc_lang_parse.specs.Parts.{has_mark, with_front, many_at, behind_comma_at, separated_behind}
use Rattle.roc_lang_parse.specs.Reading.{expression_at}
use Rattle.roc_lang_parse.proofs.statement.integers_behind.Given as goal

abbrev pub invariant-loop : goal.invariant-loop
invariant-loop l = with_front (map expression_tree l.integers.items) (many_at (has_mark comma) (behind_comma_at (expression_at standard.depth)) (standard.ids - 1 - l.counter) (token_views l.rest)) ≡ separated_behind (expression_at standard.depth) (expression_tree l.fn.first) (standard.ids - 1) (token_views l.tokens)
