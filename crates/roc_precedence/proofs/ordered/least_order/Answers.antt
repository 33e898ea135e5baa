use Rattle.std.proofs.Common.{List, sym, subst, ◌∙◌}
use Rattle.std.proofs.lemmas.Result.{IfOk-weaker}
use Rattle.std.specs.List.Sorted.{IsStrictlySortedBy}
use Rattle.roc_base.specs.declared.id.TxnId.{TxnId}
use Rattle.roc_base.specs.TxnId.{txn_cmp}
use Rattle.roc_precedence.specs.Inner.Lists.{AreListsFor}
use Rattle.roc_precedence.proofs.Found.{found_for, none_for}
use Rattle.roc_precedence.proofs.ordered.least_order.Goals as goal

pub lists_of-requires : goal.lists_of-requires
lists_of-requires c = subst (IsStrictlySortedBy txn_cmp) (sym c.deref.ensures.value) c.in_ok-set.ensures.rising

pub returns-clause-order : goal.returns-clause-order
returns-clause-order c =
    IfOk-weaker c.order_of.result _ _ (λ found h.
    found_for c.args.ids.now c.in_ok-set.set.items c.deref-2.result.now c.args.pairs.now c.in_ok-lists.lists c.in_ok-set.ensures c.deref-2.ensures.value
    (subst (λ (l : List TxnId). AreListsFor c.args.pairs.now l c.in_ok-lists.lists) (c.deref.ensures.value ∙ sym c.deref-2.ensures.value) c.in_ok-lists.ensures) found (λ v. v.items) h) c.order_of.ensures.order

pub returns-clause-none : goal.returns-clause-none
returns-clause-none c =
    IfOk-weaker c.order_of.result _ _ (λ found h.
    none_for c.args.ids.now c.in_ok-set.set.items c.deref-2.result.now c.args.pairs.now c.in_ok-lists.lists c.in_ok-set.ensures c.deref-2.ensures.value
    (subst (λ (l : List TxnId). AreListsFor c.args.pairs.now l c.in_ok-lists.lists) (c.deref.ensures.value ∙ sym c.deref-2.ensures.value) c.in_ok-lists.ensures) found h) c.order_of.ensures.none
