use Rattle.std.proofs.Common.{◌+◌, ◌++◌, ◌∙◌, drop, filter, sym, ap}
use Rattle.roc_base.specs.TxnId.{is_txn}
use Rattle.roc_sequence.specs.Places.{is_listed}
use Rattle.roc_msg.specs.declared.outbox.Ran.{Ran}
use Rattle.roc_judge.specs.Inner.Uses.{last_at, walk}
use Rattle.roc_judge.proofs.Tables.{rest_is, walk_taken, walk_passed}
use Rattle.roc_judge.proofs.uses.pair_uses.Goals as goal
use Rattle.roc_judge.proofs.uses.pair_uses.Goals.{then-is_among_rising+in_ok-take, else-is_among_rising}

pub loop-access-preserved : goal.loop-access-preserved
loop-access-preserved c =
    let x = c.access-item.result in
    let there = rest_is c.args.ran.now c.loop-access.access-index x c.access-item.is c.loop-access-test.true in
    let ws = filter (λ (b : Ran). is_listed is_txn c.args.ids.now b.id) c.args.waits.now in
    elim c.if-is_among_rising.branch [
      | then-is_among_rising+in_ok-take w ↦
          walk_taken (λ b. is_listed is_txn c.args.ids.now b.id) (last_at c.loop-access.table)
          (last_at c.if-is_among_rising.table) x _ _ ws c.loop-access.pairs.items c.if-is_among_rising.pairs.items _
          there (sym w.if-is_among_rising.ensures)
          (λ d. ap (λ m. last_at m d) w.table-is ∙ w.in_ok-take.ensures.table d)
          (ap (λ v. v.items) w.pairs-is ∙ w.in_ok-take.ensures.pairs)
          c.loop-access.invariant
      | else-is_among_rising w ↦ (
          let kept = walk_passed (λ b. is_listed is_txn c.args.ids.now b.id) (last_at c.loop-access.table) x _ _ ws c.loop-access.pairs.items _
          there (sym w.if-is_among_rising.ensures) c.loop-access.invariant in
          ap (λ v. v.items ++ walk (last_at c.if-is_among_rising.table) (filter (λ (b : Ran). is_listed is_txn c.args.ids.now b.id)
          (drop (c.loop-access.access-index + 1) c.args.ran.now)) ws) w.pairs-is
          ∙ (ap (λ m. c.loop-access.pairs.items ++ walk (last_at m) (filter (λ (b : Ran). is_listed is_txn c.args.ids.now b.id)
          (drop (c.loop-access.access-index + 1) c.args.ran.now)) ws) w.table-is ∙ kept))
    ]
