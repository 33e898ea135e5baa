use Rattle.roc_await.specs.Inner.Groups.{missing_if_named}
use Rattle.roc_await.proofs.InGroups.{flat_more}
use Rattle.roc_await.proofs.missing.missing_for_named.Goals as goal

pub loop-group-preserved : goal.loop-group-preserved
loop-group-preserved c =
    flat_more (missing_if_named c.args.but c.args.edges.now) c.args.groups.now c.loop-group.group-index c.group-item.result c.loop-group.ids.items c.push_missing.new.ids.items c.loop-group-test.true c.group-item.is c.in_ok-push_missing.ensures c.loop-group.invariant
