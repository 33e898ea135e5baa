use Rattle.std.proofs.Common.{◌<◌, ℕ, List, [], length, take, sym, subst, arith}
use Rattle.std.proofs.lemmas.List.{take_all, take_more}
use Rattle.roc_base.specs.declared.id.TxnId.{TxnId}
use Rattle.roc_base.specs.TxnId.{is_txn}
use Rattle.roc_sequence.specs.Places.{IsListed}
use Rattle.roc_server_reach.specs.Least.{AreLeastIds}
use Rattle.roc_server_reach.proofs.TakenIn.{none_least}
use Rattle.roc_server_reach.proofs.least_ids.least.Goals as goal

pub loop-id-init : goal.loop-id-init
loop-id-init c = subst (AreLeastIds (IsListed is_txn [])) (sym c.new-ids.ensures.items) none_least

pub loop-id-preserved : goal.loop-id-preserved
loop-id-preserved c =
    let met : List TxnId = c.args.met.now in
    let i : ℕ = c.loop-id.id-index in
    let within : i < length met = omega arith in
    subst (λ (xs : List TxnId). AreLeastIds (IsListed is_txn xs) c.take_in.new.ids.items) (sym (take_more met i (record { coord = 0; seq = 0 }) within))
    (c.in_ok-take_in.ensures (take i met) c.loop-id.invariant)

pub returns : goal.returns
returns c = subst (λ (xs : List TxnId). AreLeastIds (IsListed is_txn xs) c.loop-id.ids.items) (take_all c.loop-id.id-index c.args.met.now (omega arith)) c.loop-id.invariant
