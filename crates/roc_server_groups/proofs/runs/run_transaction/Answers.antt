use Rattle.std.proofs.Common.{◌≡◌, ◌≤◌, find, sym, ap, ◌∙◌, arith}
use Rattle.roc_base.specs.TxnId.{is_txn}
use Rattle.roc_step.specs.Runs.{run_groups, count_of_groups}
use Rattle.roc_server_groups.specs.Groups.{holding}
use Rattle.roc_server_groups.specs.Inner.Runs.{buffered}
use Rattle.roc_server_groups.proofs.GroupRuns.{runs_more, groups_from-end, groups_here-from}
use Rattle.roc_server_groups.proofs.runs.run_transaction.Goals as goal

pub loop-number-preserved : goal.loop-number-preserved
loop-number-preserved c =
    record {
      runs =
          runs_more c.args.plan.now c.args.id c.count_of_groups-count.result c.loop-number.number c.args.started.now.groups c.loop-number.started.groups c.run_number.new.started.groups
          c.args.rows.now.store c.loop-number.rows.store c.run_number.new.rows.store (omega arith) c.loop-number.invariant.runs c.in_ok-run_number.ensures.runs c.in_ok-run_number.ensures.groups;
      restored = c.run_number.ensures.restored ∙ c.loop-number.invariant.restored;
      spare = c.run_number.ensures.spare ∙ c.loop-number.invariant.spare;
      saved = c.run_number.ensures.saved ∙ c.loop-number.invariant.saved;
    }

pub returns-clause-runs : goal.returns-clause-runs
returns-clause-runs c s =
    let plan = c.args.plan.now in
    let first = c.args.started.now.groups in
    let counted : c.count_of_groups-count.result ≡ count_of_groups plan (find (λ e. is_txn e.id c.args.id) first) =
    c.count_of_groups-count.ensures in
    let all : c.count_of_groups-count.result ≤ c.loop-number.number = omega arith in
    ap (λ es. run_groups plan (holding s c.args.rows.now.store first) (buffered plan es)) (groups_here-from plan c.args.id first c.count_of_groups-count.result counted)
    ∙ sym (c.loop-number.invariant.runs.runs s)
    ∙ ap (λ es. run_groups plan (holding s c.loop-number.rows.store c.loop-number.started.groups) (buffered plan es)) (groups_from-end c.args.id first c.loop-number.number c.count_of_groups-count.result all)
