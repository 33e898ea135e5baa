-- The outbox gains the read of one more group
use Rattle.std.proofs.Common.{ℤ, List, refl, get_or, ap, ◌∙◌, rules}
use Rattle.roc_base.specs.declared.node.Shard.{Shard}
use Rattle.roc_base.specs.declared.node.Node.TheVariants.{Server}
use Rattle.roc_msg.specs.declared.msg.Msg.TheVariants.{Read}
use Rattle.roc_msg.specs.declared.outbox.Outgoing.{Outgoing}
use Rattle.roc_msg.proofs.Sent.{sent_none}
use Rattle.roc_readonly.specs.Inner.Missing.{read_in}
use Rattle.roc_readonly.proofs.Sends.{sent_one_more, sent_all}
use Rattle.roc_readonly.proofs.reads.send_each.Goals as goal

pub loop-group-init : goal.loop-group-init
loop-group-init c = sent_none c.args.outbox.now

pub read_shard-requires : goal.read_shard-requires
read_shard-requires c = record { view = c.requires.view; group = c.requires.groups c.loop-group.group-index 0 c.loop-group-test.true }

pub loop-group-preserved : goal.loop-group-preserved
loop-group-preserved c =
    let v = c.args.v.now in
    let i = c.loop-group.group-index in
    let g = get_or c.args.groups.now i 0 in
    let read : Shard → List ℤ → Outgoing = λ shard args. record { to = Server shard; msg = Read v.id c.args.round v.proc g args } in
    sent_one_more (read_in c.args.plan.now v c.args.round) c.args.groups.now i g 0 c.args.outbox.now c.loop-group.outbox c.send.new.self (read c.in_ok-shard.shard c.in_ok-clone.field-0)
    c.loop-group-test.true refl c.loop-group.invariant (ap (λ shard. read shard c.in_ok-clone.field-0) c.in_ok-shard.ensures ∙ ap (read _) (search rules)) c.in_ok-send.ensures.ok

pub returns : goal.returns
returns c = sent_all (read_in c.args.plan.now c.args.v.now c.args.round) c.args.groups.now c.loop-group.group-index c.args.outbox.now c.loop-group.outbox c.loop-group-test.false c.loop-group.invariant
