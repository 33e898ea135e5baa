use Rattle.std.proofs.Common.{◌∙◌, ap, sym}
use Rattle.roc_rows.proofs.Stores.{store_of-alike}
use Rattle.roc_rows.proofs.numbers.Numbers.reserve.Goals as goal

pub invariant_of-self-2 : goal.invariant_of-self-2
invariant_of-self-2 c q e = c.self.invariant q (sym (c.reserve.ensures.entries.2 q) ∙ e)

pub returns-clause-store : goal.returns-clause-store
returns-clause-store c = store_of-alike _ _ c.reserve.ensures.entries.2 ∙ ap (λ h. h.store) c.self.view_is
