use Rattle.std.proofs.Common.{◌≡◌, ◌-◌, map}
use lib.Chars.{codes}
use Rattle.roc_lang.specs.Grammar.{standard}
use Rattle.roc_lang.specs.Tree.{table_tree}
use Rattle.roc_lang_parse.specs.Inner.Views.{token_views}
use Rattle.roc_lang_parse.specs.Parts.{has_word, with_front, many_at}
use Rattle.roc_lang_parse.specs.Reading.{table_at, tables_at}
use Rattle.roc_lang_parse.proofs.declaration.tables_of.Given as goal

abbrev pub invariant-loop : goal.invariant-loop
invariant-loop l = with_front (map table_tree l.tables.items) (many_at (has_word (codes "table")) (table_at standard) (standard.tables - l.counter) (token_views l.rest)) ≡ tables_at standard (token_views l.tokens)
