use Rattle.std.proofs.Common.{◌≡◌, ◌-◌, map}
use lib.Chars.{codes}
use Rattle.roc_lang.specs.Grammar.{standard}
use Rattle.roc_lang.specs.Tree.{init_tree}
use Rattle.roc_lang_parse.specs.Inner.Views.{token_views}
use Rattle.roc_lang_parse.specs.Parts.{has_word, with_front, many_at}
use Rattle.roc_lang_parse.specs.Reading.{init_at, inits_at}
use Rattle.roc_lang_parse.proofs.declaration.inits_of.Given as goal

abbrev pub invariant-loop : goal.invariant-loop
invariant-loop l = with_front (map init_tree l.inits.items) (many_at (has_word (codes "init")) (init_at standard) (standard.inits - l.counter) (token_views l.rest)) ≡ inits_at standard (token_views l.tokens)
