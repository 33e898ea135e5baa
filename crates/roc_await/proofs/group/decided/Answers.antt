use Rattle.std.proofs.Common.{◌∙◌, List, ap, subst}
use Rattle.std.specs.List.{flat_map}
use Rattle.roc_sequence.specs.Places.{IsListed}
use Rattle.roc_sequence.proofs.Fronts.{front_whole}
use Rattle.roc_base.specs.declared.id.TxnId.{TxnId}
use Rattle.roc_base.specs.TxnId.{is_txn}
use Rattle.roc_depgraph.specs.Closure.{IsRisingListOf}
use Rattle.roc_await.specs.Inner.Groups.{decided_of}
use Rattle.roc_await.proofs.InGroups.{flat_more}
use Rattle.roc_await.proofs.group.decided.Goals as goal

pub loop-group-preserved : goal.loop-group-preserved
loop-group-preserved c =
    flat_more decided_of c.args.groups.now c.loop-group.group-index c.group-item.result c.loop-group.ids.items c.push_decided.new.ids.items c.loop-group-test.true c.group-item.is c.in_ok-push_decided.ensures c.loop-group.invariant

pub returns : goal.returns
returns c =
    let P : List TxnId → Type 0 = λ ids. IsRisingListOf (IsListed is_txn ids) c.in_ok-decided.decided.items in
    subst P (c.deref.ensures.value ∙ c.loop-group.invariant ∙ ap (flat_map decided_of) (front_whole c.args.groups.now c.loop-group.group-index c.loop-group-test.false)) c.in_ok-decided.ensures
