use Rattle.std.proofs.Common.{List, Option, subst}
use Rattle.std.proofs.lemmas.List.{take_all}
use Rattle.roc_base.specs.declared.id.TxnId.{TxnId}
use Rattle.roc_msg.specs.Outbox.{HasSent}
use Rattle.roc_msg.proofs.Sent.{sent_none}
use Rattle.roc_grown.proofs.Telling.{told_all, told_more}
use Rattle.roc_grown.proofs.drained.send_switched.Goals as goal

pub loop-told-init : goal.loop-told-init
loop-told-init c = sent_none c.args.outbox.now

pub loop-told-preserved : goal.loop-told-preserved
loop-told-preserved c =
    told_more c.args.shard c.args.drained.now c.loop-told.told-index c.args.outbox.now c.loop-told.outbox c.send_one.new.outbox c.loop-told-test.true c.loop-told.invariant c.in_ok-send_one.ensures.ok

pub returns : goal.returns
returns c =
    let are_sent : List (Option TxnId) → Type 0 = λ drained. HasSent c.args.outbox.now c.loop-told.outbox (told_all c.args.shard drained) in
    subst are_sent (take_all c.loop-told.told-index c.args.drained.now c.loop-told-test.false) c.loop-told.invariant
