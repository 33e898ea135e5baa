use Rattle.std.proofs.Common.{◌≡◌, ◌-◌, map}
use Rattle.roc_lang.specs.Grammar.{standard}
use Rattle.roc_lang.specs.Tree.{statement_tree}
use Rattle.roc_lang_parse.specs.Inner.Views.{token_views}
use Rattle.roc_lang_parse.specs.Parts.{with_front, many_at}
use Rattle.roc_lang_parse.specs.Reading.{starts_statement, statement_at, body_at}
use Rattle.roc_lang_parse.proofs.statement.body_of.Given as goal

abbrev pub invariant-loop : goal.invariant-loop
invariant-loop l = with_front (map statement_tree l.body.items) (many_at starts_statement (statement_at standard) (standard.statements - l.counter) (token_views l.rest)) ≡ body_at standard (token_views l.tokens)
