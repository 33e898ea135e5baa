use Rattle.std.proofs.Common.{take}
use Rattle.roc_server_groups.proofs.IndexSteps.{out_none, still_group_refs, are_out_more}
use Rattle.roc_server_groups.proofs.indexed.take_out.Goals as goal

pub loop-id-init : goal.loop-id-init
loop-id-init c = out_none c.args.index.now

pub take_out_one-requires : goal.take_out_one-requires
take_out_one-requires c = still_group_refs (take c.loop-id.id-index c.args.ids.now) c.args.started.now.groups c.args.index.now c.loop-id.index c.loop-id.invariant c.requires

pub loop-id-preserved : goal.loop-id-preserved
loop-id-preserved c = are_out_more c.args.ids.now c.loop-id.id-index _ c.args.index.now c.loop-id.index c.take_out_one.new.index c.loop-id-test.true c.loop-id.invariant c.take_out_one.ensures
