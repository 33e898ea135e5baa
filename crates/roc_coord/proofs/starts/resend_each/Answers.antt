-- The outbox gains the start of one more group
use Rattle.std.proofs.Common.{refl, get_or}
use Rattle.roc_base.specs.declared.node.Node.TheVariants.{Server}
use Rattle.roc_msg.proofs.Sent.{sent_none}
use Rattle.roc_coord.specs.Starts.{start_for}
use Rattle.roc_readonly.proofs.Sends.{sent_one_more, sent_all}
use Rattle.roc_coord.proofs.starts.resend_each.Goals as goal

pub loop-group-init : goal.loop-group-init
loop-group-init c = sent_none c.args.outbox.now

pub start_for-requires : goal.start_for-requires
start_for-requires c = record { transaction = c.requires.transaction; group = c.requires.groups c.loop-group.group-index 0 c.loop-group-test.true }

pub loop-group-preserved : goal.loop-group-preserved
loop-group-preserved c =
    let i = c.loop-group.group-index in
    sent_one_more (start_for c.args.plan.now c.args.x.now) c.args.groups.now i (get_or c.args.groups.now i 0) 0 c.args.outbox.now c.loop-group.outbox c.send.new.self (record { to = Server c.in_ok-shard.shard; msg = c.in_ok-shard.start })
    c.loop-group-test.true refl c.loop-group.invariant c.in_ok-shard.ensures.start c.in_ok-send.ensures.ok

pub returns : goal.returns
returns c = sent_all (start_for c.args.plan.now c.args.x.now) c.args.groups.now c.loop-group.group-index c.args.outbox.now c.loop-group.outbox c.loop-group-test.false c.loop-group.invariant
