use Rattle.std.proofs.Common.{None, refl}
use Rattle.roc_depgraph.specs.Deps.{Precedes}
use Rattle.roc_precedence.proofs.Found.{own_from, several_from, order_from, some_or_cycle, none_or_cycle}
use Rattle.roc_precedence.proofs.ordered.order_of.Goals as goal

pub returns-then-one_precedes_itself-clause-none : goal.returns-then-one_precedes_itself-clause-none
returns-then-one_precedes_itself-clause-none c =
    none_or_cycle (Precedes c.args.lists.now) c.args.set.now None refl (own_from c.args.lists.now c.args.set.now c.one_precedes_itself.result c.one_precedes_itself.ensures c.if-one_precedes_itself.true)

pub returns-then-not-are_single-clause-none : goal.returns-then-not-are_single-clause-none
returns-then-not-are_single-clause-none c =
    none_or_cycle (Precedes c.args.lists.now) c.args.set.now None refl
    (several_from c.args.lists.now c.args.set.now c.in_ok-components.components.items c.deref.result.now c.in_ok-components.ensures.components c.deref.ensures.value c.are_single.result c.are_single.ensures c.if-not-are_single.true)

pub returns-clause-order : goal.returns-clause-order
returns-clause-order c =
    order_from c.args.lists.now c.args.set.now c.in_ok-components.components.items c.deref.result.now c.in_ok-components.ensures.components c.deref.ensures.value c.are_single.result c.are_single.ensures
    c.one_precedes_itself.result c.in_ok-found.found.items c.if-not-are_single.false c.one_precedes_itself.ensures c.if-one_precedes_itself.false c.in_ok-found.ensures

pub returns-clause-none : goal.returns-clause-none
returns-clause-none c =
    some_or_cycle (Precedes c.args.lists.now) c.args.set.now c.in_ok-found.found.items _
    (order_from c.args.lists.now c.args.set.now c.in_ok-components.components.items c.deref.result.now c.in_ok-components.ensures.components c.deref.ensures.value c.are_single.result c.are_single.ensures
    c.one_precedes_itself.result c.in_ok-found.found.items c.if-not-are_single.false c.one_precedes_itself.ensures c.if-one_precedes_itself.false c.in_ok-found.ensures)
