use Rattle.std.proofs.Common.{List, ℕ, Vec, Global, length, sym, subst, ap₂, ◌∙◌}
use Rattle.std.proofs.lemmas.Result.{IfOk-weaker}
use Rattle.roc_server_reach.specs.Bits.{BitTable, AreReached}
use Rattle.roc_server_reach.specs.Inner.Rows.{bits_in, AreRowsWithin}
use Rattle.roc_server_reach.proofs.bit_rows.BitRows.reached.Goals as goal

pub reached_by-requires : goal.reached_by-requires
reached_by-requires c =
    subst (λ (rows : List (Vec ℕ Global)). AreRowsWithin rows (length c.deref-2.result.now)) (sym c.deref.ensures.value)
    (subst (λ (stale : List ℕ). AreRowsWithin c.self.inside.rows.items (length stale)) (sym c.deref-2.ensures.value) c.self.invariant)

pub returns : goal.returns
returns c =
    IfOk-weaker c.reached_by.result (λ (ns : Vec ℕ Global). AreReached (bits_in c.deref.result.now c.deref-2.result.now) c.args.from.now ns.items)
    (λ (ns : Vec ℕ Global). AreReached c.args.self.now c.args.from.now ns.items)
    (λ ns r. subst (λ (b : BitTable). AreReached b c.args.from.now ns.items)
    (ap₂ (λ (rows : List (Vec ℕ Global)) (stale : List ℕ). bits_in rows stale) c.deref.ensures.value c.deref-2.ensures.value ∙ c.self.view_is) r)
    c.reached_by.ensures
