use Rattle.std.proofs.Common.{◌++◌, ◌∷◌, [], List, take, sym, subst, ap, ◌∙◌}
use Rattle.roc_base.specs.declared.id.TxnId.{TxnId}
use Rattle.roc_base.specs.TxnId.{is_txn}
use Rattle.roc_sequence.specs.Places.{IsListed}
use Rattle.roc_sequence.proofs.Fronts.{front_more}
use Rattle.roc_depgraph.specs.Closure.{IsRisingListOf}
use Rattle.roc_component.specs.Components.{AreRisingOf}
use Rattle.roc_component.proofs.RisingParts.{rising_more}
use Rattle.roc_component.proofs.set_components.all_rising.Goals as goal

pub loop-list-preserved : goal.loop-list-preserved
loop-list-preserved c =
    let cs = c.args.lists.now in
    let x = c.list-item.result in
    let front = front_more cs c.loop-list.list-index x c.loop-list-test.true c.list-item.is in
    let rises = subst (λ (l : List TxnId). IsRisingListOf (IsListed is_txn l) c.in_ok-ids.ids.items) c.as_slice.ensures c.in_ok-ids.ensures in
    let more = rising_more (take c.loop-list.list-index cs) c.loop-list.all.items x c.in_ok-ids.ids.items c.loop-list.invariant rises in
    subst (λ l. AreRisingOf l c.push.new.self.items) front
    (subst (AreRisingOf (take c.loop-list.list-index cs ++ x ∷ [])) (sym (c.in_ok-push.ensures.items ∙ ap (λ d. c.loop-list.all.items ++ d ∷ []) c.from_vec.ensures)) more)
