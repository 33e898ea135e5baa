-- The outbox gains what is sent again of one more id
use Rattle.std.proofs.Common.{List, get_or, take, subst, sym}
use Rattle.std.proofs.lemmas.List.{take_all}
use Rattle.std.specs.List.{flat_map}
use Rattle.roc_base.specs.declared.id.TxnId.{TxnId}
use Rattle.roc_msg.specs.declared.outbox.Outgoing.{Outgoing}
use Rattle.roc_msg.specs.Outbox.{HasSent}
use Rattle.roc_msg.proofs.Sent.{sent_none, sent_then}
use Rattle.roc_plan.proofs.Taken.{flat_taken}
use Rattle.roc_coord.specs.State.{find_transaction, find_view}
use Rattle.roc_coord.specs.Tick.{transaction_again, view_again}
use Rattle.roc_coord.specs.Inner.Again.{again_in}
use Rattle.roc_coord.proofs.again.send_each_again.Goals as goal

pub loop-id-init : goal.loop-id-init
loop-id-init c = sent_none c.args.outbox.now

pub loop-id-preserved : goal.loop-id-preserved
loop-id-preserved c =
    let plan = c.args.plan.now in
    let ids = c.args.ids.now in
    let i = c.loop-id.id-index in
    let none : TxnId = record { coord = 0; seq = 0 } in
    let id : TxnId = get_or ids i none in
    let of_id = again_in plan c.args.pending.now c.args.views.now in
    let first = transaction_again plan (find_transaction id c.args.pending.now) in
    let second = view_again plan (find_view id c.args.views.now) in
    let both = sent_then c.loop-id.outbox c.send_transaction_again.new.outbox c.send_view_again.new.outbox first second c.in_ok-send_transaction_again.ensures c.in_ok-send_view_again.ensures in
    let all = sent_then c.args.outbox.now c.loop-id.outbox c.send_view_again.new.outbox (flat_map of_id (take i ids)) (of_id id) c.loop-id.invariant both in
    let are_sent : List Outgoing → Type 0 = λ sends. HasSent c.args.outbox.now c.send_view_again.new.outbox sends in
    subst are_sent (sym (flat_taken of_id ids i none c.loop-id-test.true)) all

pub returns : goal.returns
returns c =
    let are_sent : List TxnId → Type 0 = λ ids. HasSent c.args.outbox.now c.loop-id.outbox (flat_map (again_in c.args.plan.now c.args.pending.now c.args.views.now) ids) in
    subst are_sent (take_all c.loop-id.id-index c.args.ids.now c.loop-id-test.false) c.loop-id.invariant
