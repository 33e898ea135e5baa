use Rattle.std.proofs.Common.{◌<◌, length, sym, ap, ◌∙◌, arith}
use Rattle.std.specs.Option.{option_map}
use Rattle.std.proofs.lemmas.Bool.Decides.{nat_tests}
use Rattle.roc_lang_parse.specs.Inner.Views.{token_views}
use Rattle.roc_lang_parse.specs.Inner.Views.{step_view}
use Rattle.roc_lang_parse.proofs.Runs.{reached_first, reached_next, reached_shorter, reached_break}
use Rattle.roc_lang_parse.proofs.lexer.tokens_of.Goals as goal

pub loop-rest-init : goal.loop-rest-init
loop-rest-init c = rw c.new-tokens.ensures.items (reached_first c.args.text.now)

pub loop-rest-smaller : goal.loop-rest-smaller
loop-rest-smaller c = reached_shorter c.loop-rest.line c.loop-rest.rest.now (step_view c.in-Some.step) (sym (ap (option_map step_view) c.in-Some.is) ∙ c.in_ok-step.ensures)

pub loop-rest-preserved : goal.loop-rest-preserved
loop-rest-preserved c =
    reached_next c.args.text.now (token_views c.loop-rest.tokens.items) (token_views c.keep.new.tokens.items) c.loop-rest.line c.loop-rest.rest.now (step_view c.in-Some.step) c.loop-rest.invariant
    (sym (ap (option_map step_view) c.in-Some.is) ∙ c.in_ok-step.ensures) c.in_ok-keep-in-Some.ensures

pub returns-in-None : goal.returns-in-None
returns-in-None c =
    let more : 0 < length c.loop-rest.rest.now = grind (arith, nat_tests, c.loop-rest-test.ensures, c.loop-rest-test.true) in
    (c.loop-rest.rest.now, c.loop-rest.invariant.is, reached_break c.loop-rest.line c.loop-rest.rest.now more (sym (ap (option_map step_view) c.in-None.is) ∙ c.in_ok-step.ensures))
