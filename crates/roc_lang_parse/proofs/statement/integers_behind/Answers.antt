use Rattle.std.proofs.Common.{◌≡◌, ◌++◌, ◌∷◌, [], ◌-◌, map, true, false}
use Rattle.std.proofs.lemmas.List.{map_push}
use Rattle.roc_lang.specs.Grammar.{standard, comma}
use Rattle.roc_lang.specs.Tree.{expression_tree}
use Rattle.roc_lang_parse.specs.Stuck.{head_is}
use Rattle.roc_lang_parse.specs.Inner.Views.{token_views}
use Rattle.roc_lang_parse.specs.Parts.{has_mark, behind_comma_at}
use Rattle.roc_lang_parse.specs.Reading.{expression_at}
use Rattle.roc_lang_parse.proofs.Turns.{many_stops, many_is_full, many_refuses, many_goes_on}
use Rattle.roc_lang_parse.proofs.statement.integers_behind.Goals as goal

pub returns-then-not-begins_mark : goal.returns-then-not-begins_mark
returns-then-not-begins_mark c =
    let e : head_is (has_mark comma) (token_views c.loop.rest.now) ≡ false = cc c.if-not-begins_mark.ensures in
    many_stops (has_mark comma) (behind_comma_at (expression_at standard.depth)) ((standard.ids - 1) - c.loop.counter) (map expression_tree c.loop.integers.items) (token_views c.loop.rest.now) _ e c.loop.invariant

pub returns-in-Err : goal.returns-in-Err
returns-in-Err c =
    let e : head_is (has_mark comma) (token_views c.loop.rest.now) ≡ true = cc c.if-not-begins_mark.ensures in
    many_refuses (has_mark comma) (behind_comma_at (expression_at standard.depth)) (standard.ids - 1) c.loop.counter (map expression_tree c.loop.integers.items) (token_views c.loop.rest.now) _ c.in-Err.refusal c.loop-test.true e c.in-Err.ensures c.loop.invariant

pub loop-preserved : goal.loop-preserved
loop-preserved c =
    let e : head_is (has_mark comma) (token_views c.loop.rest.now) ≡ true = cc c.if-not-begins_mark.ensures in
    let x = c.in-Ok.given.0 in
    let grown : map expression_tree c.push.new.self.items ≡ map expression_tree c.loop.integers.items ++ expression_tree x ∷ [] = rw c.in_ok-push.ensures.items (map_push _ c.loop.integers.items x) in
    rw grown (many_goes_on (has_mark comma) (behind_comma_at (expression_at standard.depth)) (standard.ids - 1) c.loop.counter (map expression_tree c.loop.integers.items) (token_views c.loop.rest.now) (token_views c.in-Ok.given.1.now) (expression_tree x) _ c.loop-test.true e c.in-Ok.ensures c.loop.invariant)

pub returns-then-begins_mark : goal.returns-then-begins_mark
returns-then-begins_mark c =
    let e : head_is (has_mark comma) (token_views c.loop.rest.now) ≡ true = cc c.if-begins_mark.ensures in
    rw c.limit_fault.ensures (many_is_full (has_mark comma) (behind_comma_at (expression_at standard.depth)) (standard.ids - 1) c.loop.counter (map expression_tree c.loop.integers.items) (token_views c.loop.rest.now) _ c.loop-test.false e c.loop.invariant)

pub returns : goal.returns
returns c =
    let e : head_is (has_mark comma) (token_views c.loop.rest.now) ≡ false = cc c.if-begins_mark.ensures in
    many_stops (has_mark comma) (behind_comma_at (expression_at standard.depth)) ((standard.ids - 1) - c.loop.counter) (map expression_tree c.loop.integers.items) (token_views c.loop.rest.now) _ e c.loop.invariant
