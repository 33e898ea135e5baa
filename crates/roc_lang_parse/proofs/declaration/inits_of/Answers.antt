use Rattle.std.proofs.Common.{◌≡◌, ◌++◌, ◌∷◌, [], ◌-◌, map, true, false}
use Rattle.std.proofs.lemmas.List.{map_push}
use lib.Chars.{codes}
use Rattle.roc_lang.specs.Grammar.{standard}
use Rattle.roc_lang.specs.Tree.{init_tree}
use Rattle.roc_lang_parse.specs.Stuck.{head_is}
use Rattle.roc_lang_parse.specs.Inner.Views.{token_views}
use Rattle.roc_lang_parse.specs.Parts.{has_word}
use Rattle.roc_lang_parse.specs.Reading.{init_at}
use Rattle.roc_lang_parse.proofs.Turns.{many_starts, many_stops, many_is_full, many_refuses, many_goes_on}
use Rattle.roc_lang_parse.proofs.declaration.inits_of.Goals as goal

pub loop-init : goal.loop-init
loop-init c = rw c.new-inits.ensures.items (many_starts _)

pub returns-then-not-begins_word : goal.returns-then-not-begins_word
returns-then-not-begins_word c =
    let e : head_is (has_word (codes "init")) (token_views c.loop.rest.now) ≡ false = cc c.if-not-begins_word.ensures in
    many_stops (has_word (codes "init")) (init_at standard) (standard.inits - c.loop.counter) (map init_tree c.loop.inits.items) (token_views c.loop.rest.now) _ e c.loop.invariant

pub returns-in-Err : goal.returns-in-Err
returns-in-Err c =
    let e : head_is (has_word (codes "init")) (token_views c.loop.rest.now) ≡ true = cc c.if-not-begins_word.ensures in
    many_refuses (has_word (codes "init")) (init_at standard) standard.inits c.loop.counter (map init_tree c.loop.inits.items) (token_views c.loop.rest.now) _ c.in-Err.refusal c.loop-test.true e c.in-Err.ensures c.loop.invariant

pub loop-preserved : goal.loop-preserved
loop-preserved c =
    let e : head_is (has_word (codes "init")) (token_views c.loop.rest.now) ≡ true = cc c.if-not-begins_word.ensures in
    let x = c.in-Ok.given.0 in
    let grown : map init_tree c.push.new.self.items ≡ map init_tree c.loop.inits.items ++ init_tree x ∷ [] = rw c.in_ok-push.ensures.items (map_push _ c.loop.inits.items x) in
    rw grown (many_goes_on (has_word (codes "init")) (init_at standard) standard.inits c.loop.counter (map init_tree c.loop.inits.items) (token_views c.loop.rest.now) (token_views c.in-Ok.given.1.now) (init_tree x) _ c.loop-test.true e c.in-Ok.ensures c.loop.invariant)

pub returns-then-begins_word : goal.returns-then-begins_word
returns-then-begins_word c =
    let e : head_is (has_word (codes "init")) (token_views c.loop.rest.now) ≡ true = cc c.if-begins_word.ensures in
    rw c.limit_fault.ensures (many_is_full (has_word (codes "init")) (init_at standard) standard.inits c.loop.counter (map init_tree c.loop.inits.items) (token_views c.loop.rest.now) _ c.loop-test.false e c.loop.invariant)

pub returns : goal.returns
returns c =
    let e : head_is (has_word (codes "init")) (token_views c.loop.rest.now) ≡ false = cc c.if-begins_word.ensures in
    many_stops (has_word (codes "init")) (init_at standard) (standard.inits - c.loop.counter) (map init_tree c.loop.inits.items) (token_views c.loop.rest.now) _ e c.loop.invariant
