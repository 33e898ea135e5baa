use Rattle.std.proofs.Common.{◌<◌, List, arith, length, sym, subst}
use Rattle.std.proofs.lemmas.Result.{IfOk-weaker}
use Rattle.roc_base.specs.declared.id.TxnId.{TxnId}
use Rattle.roc_component.specs.Components.{AreTaken, IsComponentOrderOf}
use Rattle.roc_component.proofs.OneMember.{few_in_order, few_taken}
use Rattle.roc_component.proofs.OrderOf.{starts_inside, order_is, parts_are}
use Rattle.roc_component.proofs.component_order.take_set.Goals as goal

pub components-requires : goal.components-requires
components-requires c = starts_inside c.args.deps.now c.args.ids.now c.in_ok-set.set.items c.deref.result.now c.in_ok-lists.lists c.in_ok-set.ensures c.deref.ensures.value c.in_ok-lists.ensures c.deref-2.result.now c.deref-2.ensures.value

pub returns-then-len-lt2-clause-order : goal.returns-then-len-lt2-clause-order
returns-then-len-lt2-clause-order c =
    let few : length c.in_ok-set.set.items < 2 = omega arith in
    IfOk-weaker c.take_few.result _ _ (λ all same. subst (λ (order : List TxnId). IsComponentOrderOf c.args.deps.now c.args.ids.now order) (sym same) (few_in_order c.args.deps.now c.args.ids.now c.in_ok-set.set.items c.in_ok-set.ensures few))
    c.take_few.ensures.order

pub returns-then-len-lt2-clause-parts : goal.returns-then-len-lt2-clause-parts
returns-then-len-lt2-clause-parts c =
    let few : length c.in_ok-set.set.items < 2 = omega arith in
    IfOk-weaker c.take_few.result _ _ (λ all same. subst (λ (parts : List (List TxnId)). AreTaken c.args.deps.now c.args.ids.now parts) (sym same) (few_taken c.args.deps.now c.args.ids.now c.in_ok-set.set.items c.in_ok-set.ensures few))
    c.take_few.ensures.parts

pub returns-clause-order : goal.returns-clause-order
returns-clause-order c =
    IfOk-weaker c.take_all.result _ _ (λ all taken.
    order_is c.args.deps.now c.args.ids.now c.in_ok-set.set.items c.deref.result.now c.in_ok-lists.lists c.in_ok-set.ensures c.deref.ensures.value c.in_ok-lists.ensures
    c.deref-2.result.now c.in_ok-components.components.items c.deref-4.result.now c.in_ok-turns.turns.items all.order.items
    c.deref-2.ensures.value c.in_ok-components.ensures c.deref-4.ensures.value c.in_ok-turns.ensures taken.0) c.take_all.ensures

pub returns-clause-parts : goal.returns-clause-parts
returns-clause-parts c =
    IfOk-weaker c.take_all.result _ _ (λ all taken.
    parts_are c.args.deps.now c.args.ids.now c.in_ok-set.set.items c.deref.result.now c.in_ok-lists.lists c.in_ok-set.ensures c.deref.ensures.value c.in_ok-lists.ensures
    c.deref-2.result.now c.in_ok-components.components.items c.deref-4.result.now c.in_ok-turns.turns.items all.order.items all.parts.items
    c.deref-2.ensures.value c.in_ok-components.ensures c.deref-4.ensures.value c.in_ok-turns.ensures taken.0 taken.1) c.take_all.ensures
