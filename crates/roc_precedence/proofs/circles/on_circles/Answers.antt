use Rattle.std.proofs.Common.{List, sym, subst, ◌∙◌}
use Rattle.std.proofs.lemmas.Result.{IfOk-weaker}
use Rattle.std.specs.List.Sorted.{IsStrictlySortedBy}
use Rattle.roc_base.specs.declared.id.TxnId.{TxnId}
use Rattle.roc_base.specs.TxnId.{txn_cmp}
use Rattle.roc_precedence.specs.Inner.Lists.{AreListsFor}
use Rattle.roc_precedence.proofs.OnCycles.{circles_for}
use Rattle.roc_precedence.proofs.circles.on_circles.Goals as goal

pub lists_of-requires : goal.lists_of-requires
lists_of-requires c = subst (IsStrictlySortedBy txn_cmp) (sym c.deref.ensures.value) c.in_ok-set.ensures.rising

pub returns : goal.returns
returns c =
    IfOk-weaker c.around.result _ _ (λ found h.
    circles_for c.args.ids.now c.in_ok-set.set.items c.deref-2.result.now c.args.pairs.now c.in_ok-lists.lists c.in_ok-set.ensures c.deref-2.ensures.value
    (subst (λ (l : List TxnId). AreListsFor c.args.pairs.now l c.in_ok-lists.lists) (c.deref.ensures.value ∙ sym c.deref-2.ensures.value) c.in_ok-lists.ensures) found.items h) c.around.ensures
