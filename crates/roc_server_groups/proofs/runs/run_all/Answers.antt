use Rattle.std.proofs.Common.{◌≡◌, ◌+◌, ◌<◌, suc, length, drop, ◌∷◌, get_or, ap, ◌∙◌, arith}
use Rattle.std.proofs.Math.Seq.{drop-cons}
use Rattle.roc_base.specs.declared.id.TxnId.{TxnId}
use Rattle.roc_server_groups.proofs.GroupRuns.{takes_more}
use Rattle.roc_server_groups.proofs.runs.run_all.Goals as goal

pub loop-id-preserved : goal.loop-id-preserved
loop-id-preserved c =
    let ids = c.args.ids.now in
    let i = c.loop-id.id-index in
    let none : TxnId = record { coord = 0; seq = 0 } in
    let within : i < length ids = omega arith in
    let next : suc i ≡ i + 1 = omega arith in
    record {
      takes =
          takes_more c.args.plan.now ids (drop i ids) (drop (i + 1) ids) (get_or ids i none) c.args.started.now.groups c.loop-id.started.groups c.run_transaction.new.started.groups
          c.args.rows.now.store c.loop-id.rows.store c.run_transaction.new.rows.store
          (drop-cons ids i none within ∙ ap (λ k. get_or ids i none ∷ drop k ids) next) c.loop-id.invariant.takes c.in_ok-run_transaction.ensures.runs c.in_ok-run_transaction.ensures.groups;
      restored = c.run_transaction.ensures.restored ∙ c.loop-id.invariant.restored;
      spare = c.run_transaction.ensures.spare ∙ c.loop-id.invariant.spare;
      saved = c.run_transaction.ensures.saved ∙ c.loop-id.invariant.saved;
    }
