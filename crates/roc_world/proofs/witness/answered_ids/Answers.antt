use Rattle.std.proofs.Common.{◌∙◌, true, cond, ap}
use Rattle.std.specs.BTreeSet.{contains}
use Rattle.std.specs.Ordering.{is_eq}
use Rattle.roc_base.specs.TxnId.{txn_cmp}
use Rattle.roc_world.proofs.Woven.{answer_more, other_more}
use Rattle.roc_world.proofs.witness.answered_ids.Goals.{in-Answered+in_ok-insert, in_default}
use Rattle.roc_world.proofs.witness.answered_ids.Goals as goal

pub loop-entry-preserved : goal.loop-entry-preserved
loop-entry-preserved c u =
    let es = c.args.history.now in
    let i = c.loop-entry.entry-index in
    let e = c.entry-item.result in
    elim c.match-entry.branch [
      | in-Answered+in_ok-insert w ↦
          ap (λ ids. contains txn_cmp ids u) w.ids-is
          ∙ (w.in_ok-insert.ensures.updates.0 u
          ∙ (ap (λ b. cond (is_eq (txn_cmp w.in-Answered.id u)) true b) (c.loop-entry.invariant u)
          ∙ answer_more es i e c.loop-entry-test.true c.entry-item.is w.in-Answered.id w.in-Answered.reply w.in-Answered.is u))
      | in_default w ↦ ap (λ ids. contains txn_cmp ids u) w.ids-is ∙ (c.loop-entry.invariant u ∙ other_more es i e c.loop-entry-test.true c.entry-item.is w.in_default.not-Answered u)
    ]
