use Rattle.std.proofs.Common.{◌≡◌, ℕ, ◌-◌, Bool, true, false, List, ap, arith}
use Rattle.roc_lang.specs.Tokens.{Token}
use Rattle.roc_lang.specs.Grammar.{star}
use Rattle.roc_lang_parse.specs.Stuck.{Reading, head_is}
use Rattle.roc_lang_parse.specs.Inner.Views.{token_views, deep_view}
use Rattle.roc_lang_parse.specs.Parts.{has_mark}
use Rattle.roc_lang_parse.specs.Reading.{Deep, is_sign, atom_at, factor_at, times, term_at, signed_term_at, plus_or_minus}
use Rattle.roc_lang_parse.proofs.Turns.{deep_is_sum, loop_stops, loop_past, loop_is_full, loop_refuses, loop_goes_on}
use Rattle.roc_lang_parse.proofs.expression.+expression.Goals as goal

pub deep_of-returns-clause-read : goal.deep_of-returns-clause-read
deep_of-returns-clause-read t c = rw (deep_is_sum c.args.room (token_views c.args.tokens.now) c.requires.above) c.sum_of.ensures.read

abbrev factors_of_item : ℕ → List Token → Reading Deep
factors_of_item room = factor_at (atom_at (room - 1))

pub factors_of-returns-then-not-begins_mark-clause-read : goal.factors_of-returns-then-not-begins_mark-clause-read
factors_of-returns-then-not-begins_mark-clause-read t c =
    let e : head_is (has_mark star) (token_views c.loop.rest.now) ≡ false = cc c.if-not-begins_mark.ensures in
    loop_stops (has_mark star) (factors_of_item c.args.room) times c.args.room (c.args.room - c.loop.counter) (deep_view c.loop.product) (token_views c.loop.rest.now) _ e c.loop.invariant.0

pub factors_of-returns-then-product-room-clause-read : goal.factors_of-returns-then-product-room-clause-read
factors_of-returns-then-product-room-clause-read t c =
    let e : head_is (has_mark star) (token_views c.loop.rest.now) ≡ true = cc c.if-not-begins_mark.ensures in
    rw c.limit_fault.ensures (loop_past (has_mark star) (factors_of_item c.args.room) times c.args.room (c.args.room - c.loop.counter) (deep_view c.loop.product) (token_views c.loop.rest.now) _ e c.if-product-room.true c.loop.invariant.0)

pub factors_of-returns-in-Err-clause-read : goal.factors_of-returns-in-Err-clause-read
factors_of-returns-in-Err-clause-read t c =
    let e : head_is (has_mark star) (token_views c.loop.rest.now) ≡ true = cc c.if-not-begins_mark.ensures in
    loop_refuses (has_mark star) (factors_of_item c.args.room) times c.args.room c.args.room c.loop.counter (deep_view c.loop.product) (token_views c.loop.rest.now) _ c.in-Err.refusal c.loop-test.true e c.if-product-room.false c.in-Err.ensures.read c.loop.invariant.0

pub factors_of-loop-preserved : goal.factors_of-loop-preserved
factors_of-loop-preserved t c =
    let e : head_is (has_mark star) (token_views c.loop.rest.now) ≡ true = cc c.if-not-begins_mark.ensures in
    let d = ap (λ z. z.1) c.in_ok-product.ensures in
    let l = c.if-product-room.false in
    let f = c.in-Ok.ensures.fits in
    let on = loop_goes_on (has_mark star) (factors_of_item c.args.room) times c.args.room c.args.room c.loop.counter (deep_view c.loop.product) (token_views c.loop.rest.now) (token_views c.in-Ok.given.1.now) (deep_view c.in-Ok.given.0) _ c.loop-test.true e l c.in-Ok.ensures.read c.loop.invariant.0 in
    (rw c.in_ok-product.ensures on, omega arith, omega arith)

pub factors_of-returns-then-begins_mark-clause-read : goal.factors_of-returns-then-begins_mark-clause-read
factors_of-returns-then-begins_mark-clause-read t c =
    let e : head_is (has_mark star) (token_views c.loop.rest.now) ≡ true = cc c.if-begins_mark.ensures in
    rw c.limit_fault-then-begins_mark.ensures (loop_is_full (has_mark star) (factors_of_item c.args.room) times c.args.room c.args.room c.loop.counter (deep_view c.loop.product) (token_views c.loop.rest.now) _ c.loop-test.false e c.loop.invariant.0)

pub factors_of-returns-clause-read : goal.factors_of-returns-clause-read
factors_of-returns-clause-read t c =
    let e : head_is (has_mark star) (token_views c.loop.rest.now) ≡ false = cc c.if-begins_mark.ensures in
    loop_stops (has_mark star) (factors_of_item c.args.room) times c.args.room (c.args.room - c.loop.counter) (deep_view c.loop.product) (token_views c.loop.rest.now) _ e c.loop.invariant.0

abbrev sums_of_item : ℕ → List Token → Reading (Bool × Deep)
sums_of_item room = signed_term_at (term_at (room - 1))

pub sums_of-returns-then-not-begins_sign-clause-read : goal.sums_of-returns-then-not-begins_sign-clause-read
sums_of-returns-then-not-begins_sign-clause-read t c =
    let e : head_is is_sign (token_views c.loop.rest.now) ≡ false = cc c.if-not-begins_sign.ensures in
    loop_stops is_sign (sums_of_item c.args.room) plus_or_minus c.args.room (c.args.room - c.loop.counter) (deep_view c.loop.sum) (token_views c.loop.rest.now) _ e c.loop.invariant.0

pub sums_of-returns-then-sum-room-clause-read : goal.sums_of-returns-then-sum-room-clause-read
sums_of-returns-then-sum-room-clause-read t c =
    let e : head_is is_sign (token_views c.loop.rest.now) ≡ true = cc c.if-not-begins_sign.ensures in
    rw c.limit_fault.ensures (loop_past is_sign (sums_of_item c.args.room) plus_or_minus c.args.room (c.args.room - c.loop.counter) (deep_view c.loop.sum) (token_views c.loop.rest.now) _ e c.if-sum-room.true c.loop.invariant.0)

pub sums_of-returns-in-Err-clause-read : goal.sums_of-returns-in-Err-clause-read
sums_of-returns-in-Err-clause-read t c =
    let e : head_is is_sign (token_views c.loop.rest.now) ≡ true = cc c.if-not-begins_sign.ensures in
    loop_refuses is_sign (sums_of_item c.args.room) plus_or_minus c.args.room c.args.room c.loop.counter (deep_view c.loop.sum) (token_views c.loop.rest.now) _ c.in-Err.refusal c.loop-test.true e c.if-sum-room.false c.in-Err.ensures.read c.loop.invariant.0

pub sums_of-loop-preserved : goal.sums_of-loop-preserved
sums_of-loop-preserved t c =
    let e : head_is is_sign (token_views c.loop.rest.now) ≡ true = cc c.if-not-begins_sign.ensures in
    let d = ap (λ z. z.1) c.in_ok-sum.ensures in
    let l = c.if-sum-room.false in
    let f = c.in-Ok.ensures.fits in
    let on = loop_goes_on is_sign (sums_of_item c.args.room) plus_or_minus c.args.room c.args.room c.loop.counter (deep_view c.loop.sum) (token_views c.loop.rest.now) (token_views c.in-Ok.given.1.now) (c.in-Ok.given.0.0, deep_view c.in-Ok.given.0.1) _ c.loop-test.true e l c.in-Ok.ensures.read c.loop.invariant.0 in
    (rw c.in_ok-sum.ensures on, omega arith, omega arith)

pub sums_of-returns-then-begins_sign-clause-read : goal.sums_of-returns-then-begins_sign-clause-read
sums_of-returns-then-begins_sign-clause-read t c =
    let e : head_is is_sign (token_views c.loop.rest.now) ≡ true = cc c.if-begins_sign.ensures in
    rw c.limit_fault-then-begins_sign.ensures (loop_is_full is_sign (sums_of_item c.args.room) plus_or_minus c.args.room c.args.room c.loop.counter (deep_view c.loop.sum) (token_views c.loop.rest.now) _ c.loop-test.false e c.loop.invariant.0)

pub sums_of-returns-clause-read : goal.sums_of-returns-clause-read
sums_of-returns-clause-read t c =
    let e : head_is is_sign (token_views c.loop.rest.now) ≡ false = cc c.if-begins_sign.ensures in
    loop_stops is_sign (sums_of_item c.args.room) plus_or_minus c.args.room (c.args.room - c.loop.counter) (deep_view c.loop.sum) (token_views c.loop.rest.now) _ e c.loop.invariant.0
