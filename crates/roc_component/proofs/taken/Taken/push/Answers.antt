use Rattle.std.proofs.Common.{◌∙◌, ◌++◌, ◌∷◌, [], true, cond, sym, ap}
use Rattle.std.specs.Ordering.{is_eq}
use Rattle.roc_base.specs.TxnId.{is_txn, txn_cmp}
use Rattle.roc_sequence.specs.Places.{is_listed}
use Rattle.roc_component.proofs.Taking.{listed_more}
use Rattle.roc_component.proofs.taken.Taken.push.Goals as goal

pub invariant_of-self-2 : goal.invariant_of-self-2
invariant_of-self-2 c u =
    c.in_ok-insert.ensures.updates.0 u
    ∙ ap (λ b. cond (is_eq (txn_cmp c.args.id u)) true b) (c.self.invariant u)
    ∙ sym (listed_more c.self.inside.order.items c.args.id u)
    ∙ ap (λ l. is_listed is_txn l u) (ap (λ l. l ++ c.args.id ∷ []) (sym c.reserve.ensures.items) ∙ sym (rw c.unwrap.ensures at c.push.ensures.items))
