use Rattle.std.proofs.Common.{List, ℕ, length, ap, ◌∙◌, sym, subst, arith}
use Rattle.std.proofs.lemmas.List.{with_items_is}
use Rattle.roc_server_reach.specs.Bits.{BitTable, IsColumnCleared}
use Rattle.roc_server_reach.specs.Inner.Rows.{bits_in, AreRowsWithin}
use Rattle.roc_server_reach.proofs.bit_rows.BitRows.clear_column.Goals as goal

pub invariant_of-self : goal.invariant_of-self
invariant_of-self c =
    let written = with_items_is c.self.inside.stale c.clear_column.new.stale (omega (arith, ap length c.deref_mut.ensures.value)) in
    let long = ap length c.deref_mut.ensures.value in
    subst (λ (width : ℕ). AreRowsWithin c.self.inside.rows.items width) (sym (ap length written ∙ (c.clear_column.ensures.each ∙ long))) c.self.invariant

pub returns : goal.returns
returns c =
    let written = with_items_is c.self.inside.stale c.clear_column.new.stale (omega (arith, ap length c.deref_mut.ensures.value)) in
    let rows = c.self.inside.rows.items in
    subst (λ (stale : List ℕ). IsColumnCleared c.args.at c.args.self.now (bits_in rows stale)) (sym written)
    (subst (λ (b : BitTable). IsColumnCleared c.args.at b (bits_in rows c.clear_column.new.stale)) (ap (λ (stale : List ℕ). bits_in rows stale) c.deref_mut.ensures.value ∙ c.self.view_is)
    (c.clear_column.ensures.cleared rows (subst (λ (width : ℕ). AreRowsWithin rows width) (sym (ap length c.deref_mut.ensures.value)) c.self.invariant)))
