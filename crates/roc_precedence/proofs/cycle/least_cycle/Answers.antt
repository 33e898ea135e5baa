use Rattle.std.proofs.Common.{List, sym, subst, ◌∙◌}
use Rattle.std.proofs.lemmas.Result.{IfOk-weaker}
use Rattle.roc_base.specs.declared.id.TxnId.{TxnId}
use Rattle.roc_precedence.specs.Inner.Lists.{AreListsFor}
use Rattle.roc_precedence.proofs.Around.{cycle_of_pairs, none_of_pairs}
use Rattle.roc_precedence.proofs.cycle.least_cycle.Goals as goal

pub returns-clause-cycle : goal.returns-clause-cycle
returns-clause-cycle c =
    IfOk-weaker c.way_found.result _ _ (λ found h.
    cycle_of_pairs c.args.ids.now c.in_ok-set.set.items c.deref-2.result.now c.args.pairs.now c.in_ok-lists.lists c.in_ok-set.ensures c.deref-2.ensures.value
    (subst (λ (l : List TxnId). AreListsFor c.args.pairs.now l c.in_ok-lists.lists) (c.deref.ensures.value ∙ sym c.deref-2.ensures.value) c.in_ok-lists.ensures)
    (λ v. v.items) found h) c.way_found.ensures

pub returns-clause-none : goal.returns-clause-none
returns-clause-none c =
    IfOk-weaker c.way_found.result _ _ (λ found h.
    none_of_pairs c.args.ids.now c.in_ok-set.set.items c.deref-2.result.now c.args.pairs.now c.in_ok-lists.lists c.in_ok-set.ensures c.deref-2.ensures.value
    (subst (λ (l : List TxnId). AreListsFor c.args.pairs.now l c.in_ok-lists.lists) (c.deref.ensures.value ∙ sym c.deref-2.ensures.value) c.in_ok-lists.ensures)
    (λ v. v.items) found h) c.way_found.ensures
