use Rattle.std.proofs.Common.{◌≡◌, ◌-◌, map}
use Rattle.roc_lang.specs.Grammar.{comma}
use Rattle.roc_lang.specs.Tree.{name_tree}
use Rattle.roc_lang_parse.specs.Inner.Views.{token_views}
use Rattle.roc_lang_parse.specs.Parts.{has_mark, with_front, many_at, behind_comma_at, separated_behind, name_at}
use Rattle.roc_lang_parse.proofs.procedure.names_behind.Given as goal

abbrev pub invariant-loop : goal.invariant-loop
invariant-loop l = with_front (map name_tree l.names.items) (many_at (has_mark comma) (behind_comma_at name_at) (l.more - l.counter) (token_views l.rest)) ≡ separated_behind name_at (name_tree l.fn.first) l.more (token_views l.tokens)
