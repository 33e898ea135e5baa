use Rattle.std.proofs.Common.{sym, ap, ◌∙◌, refl, arith}
use Rattle.roc_base.specs.TxnId.{is_txn}
use Rattle.roc_sequence.specs.Places.{is_listed}
use Rattle.roc_audit.proofs.order.Order.note.Goals as goal

pub loop-id-init : goal.loop-id-init
loop-id-init c = record {
  so_far = refl;
  members = λ u. c.reserve-2.ensures.keys.2 u ∙ c.self.invariant u ∙ ap (λ ids. is_listed is_txn ids u) (sym c.reserve.ensures.items);
  room = omega (arith, c.in_ok-reserve.ensures.ok);
  spare = omega (arith, c.in_ok-reserve-2.ensures.ok);
}
