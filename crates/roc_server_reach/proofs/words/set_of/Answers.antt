use Rattle.std.proofs.Common.{List, ℕ, length, ap, ◌∙◌, arith}
use Rattle.std.proofs.lemmas.List.{with_items_is}
use Rattle.roc_server_reach.specs.Bits.{row_bit}
use Rattle.roc_server_reach.proofs.words.set_of.Goals as goal

pub put_all-requires-clause-below : goal.put_all-requires-clause-below
put_all-requires-clause-below c = λ k h. (let below = c.requires k h in omega (arith, ap length c.deref_mut.ensures.value, c.in_ok-set.ensures.width))

pub put_all-requires-clause-none : goal.put_all-requires-clause-none
put_all-requires-clause-none c = λ m. ap (λ (ws : List ℕ). row_bit ws m) c.deref_mut.ensures.value ∙ c.in_ok-set.ensures.none m

pub returns-clause-width : goal.returns-clause-width
returns-clause-width c =
    let written = with_items_is c.in_ok-set.set c.put_all.new.set (omega (arith, ap length c.deref_mut.ensures.value)) in
    omega (arith, ap length written, ap length c.deref_mut.ensures.value, c.in_ok-set.ensures.width)

pub returns-clause-bits : goal.returns-clause-bits
returns-clause-bits c =
    let written = with_items_is c.in_ok-set.set c.put_all.new.set (omega (arith, ap length c.deref_mut.ensures.value)) in
    λ m. ap (λ (ws : List ℕ). row_bit ws m) written ∙ c.put_all.ensures m
