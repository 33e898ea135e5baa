use Rattle.std.proofs.Common.{◌≡◌, ◌++◌, ◌∷◌, [], ◌-◌, map, true, false}
use Rattle.std.proofs.lemmas.List.{map_push}
use Rattle.roc_lang.specs.Grammar.{standard}
use Rattle.roc_lang.specs.Tree.{statement_tree}
use Rattle.roc_lang_parse.specs.Stuck.{head_is}
use Rattle.roc_lang_parse.specs.Inner.Views.{token_views}
use Rattle.roc_lang_parse.specs.Reading.{starts_statement, statement_at}
use Rattle.roc_lang_parse.proofs.Turns.{many_starts, many_stops, many_is_full, many_refuses, many_goes_on}
use Rattle.roc_lang_parse.proofs.statement.body_of.Goals as goal

pub loop-init : goal.loop-init
loop-init c = rw c.new-body.ensures.items (many_starts _)

pub returns-then-not-begins_statement : goal.returns-then-not-begins_statement
returns-then-not-begins_statement c =
    let e : head_is starts_statement (token_views c.loop.rest.now) ≡ false = cc c.if-not-begins_statement.ensures in
    many_stops starts_statement (statement_at standard) (standard.statements - c.loop.counter) (map statement_tree c.loop.body.items) (token_views c.loop.rest.now) _ e c.loop.invariant

pub returns-in-Err : goal.returns-in-Err
returns-in-Err c =
    let e : head_is starts_statement (token_views c.loop.rest.now) ≡ true = cc c.if-not-begins_statement.ensures in
    many_refuses starts_statement (statement_at standard) standard.statements c.loop.counter (map statement_tree c.loop.body.items) (token_views c.loop.rest.now) _ c.in-Err.refusal c.loop-test.true e c.in-Err.ensures c.loop.invariant

pub loop-preserved : goal.loop-preserved
loop-preserved c =
    let e : head_is starts_statement (token_views c.loop.rest.now) ≡ true = cc c.if-not-begins_statement.ensures in
    let x = c.in-Ok.given.0 in
    let grown : map statement_tree c.push.new.self.items ≡ map statement_tree c.loop.body.items ++ statement_tree x ∷ [] = rw c.in_ok-push.ensures.items (map_push _ c.loop.body.items x) in
    rw grown (many_goes_on starts_statement (statement_at standard) standard.statements c.loop.counter (map statement_tree c.loop.body.items) (token_views c.loop.rest.now) (token_views c.in-Ok.given.1.now) (statement_tree x) _ c.loop-test.true e c.in-Ok.ensures c.loop.invariant)

pub returns-then-begins_statement : goal.returns-then-begins_statement
returns-then-begins_statement c =
    let e : head_is starts_statement (token_views c.loop.rest.now) ≡ true = cc c.if-begins_statement.ensures in
    rw c.limit_fault.ensures (many_is_full starts_statement (statement_at standard) standard.statements c.loop.counter (map statement_tree c.loop.body.items) (token_views c.loop.rest.now) _ c.loop-test.false e c.loop.invariant)

pub returns : goal.returns
returns c =
    let e : head_is starts_statement (token_views c.loop.rest.now) ≡ false = cc c.if-begins_statement.ensures in
    many_stops starts_statement (statement_at standard) (standard.statements - c.loop.counter) (map statement_tree c.loop.body.items) (token_views c.loop.rest.now) _ e c.loop.invariant
