use Rattle.std.proofs.Common.{◌≡◌, ◌-◌, map}
use lib.Chars.{codes}
use Rattle.roc_lang.specs.Grammar.{standard}
use Rattle.roc_lang.specs.Tree.{procedure_tree}
use Rattle.roc_lang_parse.specs.Inner.Views.{token_views}
use Rattle.roc_lang_parse.specs.Parts.{has_word, with_front, many_at}
use Rattle.roc_lang_parse.specs.Reading.{procedure_at, procedures_at}
use Rattle.roc_lang_parse.proofs.procedure.procedures_of.Given as goal

abbrev pub invariant-loop : goal.invariant-loop
invariant-loop l = with_front (map procedure_tree l.procedures.items) (many_at (has_word (codes "proc")) (procedure_at standard) (standard.procedures - l.counter) (token_views l.rest)) ≡ procedures_at standard (token_views l.tokens)
