use Rattle.std.proofs.Common.{◌≡◌, ℕ, List, length, Vec, Global, ap, ◌∙◌, arith}
use Rattle.std.proofs.lemmas.Result.{IfOk-weaker}
use Rattle.roc_server_reach.specs.Bits.{row_bit, AreReached}
use Rattle.roc_server_reach.specs.Inner.Words.{IsSetOf}
use Rattle.roc_server_reach.specs.Inner.Rows.{bits_in}
use Rattle.roc_server_reach.proofs.rows.reached_by.Goals as goal

pub set_of-requires : goal.set_of-requires
set_of-requires c = λ k h. (let below = c.words_for.ensures.below k h in omega arith)

pub search-requires-clause-within : goal.search-requires-clause-within
search-requires-clause-within c = c.requires

pub search-requires-clause-wide : goal.search-requires-clause-wide
search-requires-clause-wide c =
    let long : length c.deref_mut.result.now ≡ c.max-width.result = ap length c.deref_mut.ensures.value ∙ c.in_ok-met.ensures.width in
    omega arith

pub search-requires-clause-few : goal.search-requires-clause-few
search-requires-clause-few c =
    let long : length c.deref_mut.result.now ≡ c.max-width.result = ap length c.deref_mut.ensures.value ∙ c.in_ok-met.ensures.width in
    let a = c.requires.few in
    let b = c.words_for.ensures.few in
    omega arith

pub search-requires-clause-each : goal.search-requires-clause-each
search-requires-clause-each c = omega (arith, ap length c.deref_mut.ensures.value, ap length c.deref_mut-2.ensures.value, c.in_ok-met.ensures.width, c.in_ok-done.ensures.width)

pub search-requires-clause-none : goal.search-requires-clause-none
search-requires-clause-none c = λ m. ap (λ (ws : List ℕ). row_bit ws m) c.deref_mut-2.ensures.value ∙ c.in_ok-done.ensures.none m

pub returns : goal.returns
returns c =
    IfOk-weaker c.search.result (λ (ns : Vec ℕ Global). (names : List ℕ) → IsSetOf names c.deref_mut.result.now → AreReached (bits_in c.args.rows.now c.args.stale.now) names ns.items)
    (λ (ns : Vec ℕ Global). AreReached (bits_in c.args.rows.now c.args.stale.now) c.args.from.now ns.items)
    (λ ns reached. reached c.args.from.now (λ m. ap (λ (ws : List ℕ). row_bit ws m) c.deref_mut.ensures.value ∙ c.in_ok-met.ensures.bits m)) c.search.ensures
