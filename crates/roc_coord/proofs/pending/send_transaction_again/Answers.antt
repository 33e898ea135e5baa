use Rattle.std.proofs.Common.{◌≡◌, Option, Some, OnOk, ap, sym, subst, ◌∙◌}
use Rattle.roc_base.specs.TxnId.{is_txn}
use Rattle.roc_msg.specs.Outbox.{HasSent}
use Rattle.roc_msg.proofs.Sent.{sent_none}
use Rattle.roc_sequence.proofs.Found.{not_found}
use Rattle.roc_coord.specs.declared.transaction.Transaction.{Transaction}
use Rattle.roc_coord.specs.State.{find_transaction}
use Rattle.roc_coord.specs.Tick.{transaction_again}
use Rattle.roc_coord.proofs.Among.{place_found}
use Rattle.roc_coord.proofs.pending.send_transaction_again.Goals as goal

pub returns-in-None : goal.returns-in-None
returns-in-None c =
    let are_sent : Option Transaction → Type 0 = λ x. HasSent c.args.outbox.now c.args.outbox.now (transaction_again c.args.plan.now x) in
    subst are_sent (sym (not_found (λ x. is_txn x.id c.args.id) c.args.pending.now (sym c.place_of.ensures ∙ c.in-None.is))) (sent_none c.args.outbox.now)

pub returns-in-Some : goal.returns-in-Some
returns-in-Some c =
    let are_sent : Option Transaction → Type 0 = λ x. OnOk c.send_again.result (HasSent c.args.outbox.now c.send_again.new.outbox (transaction_again c.args.plan.now x)) in
    let found : find_transaction c.args.id c.args.pending.now ≡ Some c.index-pending-at.result = (place_found (λ x. is_txn x.id c.args.id) c.args.pending.now c.in-Some.at (sym c.place_of.ensures ∙ c.in-Some.is)).found c.index-pending-at.result ∙ ap Some (sym c.index-pending-at.is) in
    subst are_sent (sym found) c.send_again.ensures
