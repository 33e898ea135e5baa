use Rattle.std.proofs.Common.{◌≤◌, length, drop, arith}
use Rattle.roc_sequence.proofs.Fronts.{no_rest}
use Rattle.roc_base.specs.declared.id.TxnId.{TxnId}
use Rattle.roc_whole.specs.Serial.{serial_run}
use Rattle.roc_audit.specs.Witness.{submitted_calls}
use Rattle.roc_audit_witness.proofs.Steps.{all_ran, run_more, start_ran}
use Rattle.roc_audit_witness.proofs.runs.serial_replies.Goals as goal

pub loop-id-init : goal.loop-id-init
loop-id-init c = start_ran c.args.workload.now c.args.history.now c.args.order.now c.in_ok-rows.rows.store c.new-replies.result.items c.new-replies.ensures.items c.in_ok-rows.ensures

pub loop-id-preserved : goal.loop-id-preserved
loop-id-preserved c =
    let none : TxnId = record { coord = 0; seq = 0 } in
    run_more c.args.workload.now c.args.history.now c.args.order.now c.loop-id.id-index none c.loop-id.rows.store c.run_one.new.rows.store c.loop-id.replies.items c.run_one.new.replies.items
    (serial_run c.args.workload.now (submitted_calls c.args.history.now c.args.order.now)) c.loop-id-test.true c.in_ok-run_one.ensures c.loop-id.invariant

pub returns : goal.returns
returns c =
    let end : length c.args.order.now ≤ c.loop-id.id-index = omega arith in
    all_ran c.args.workload.now c.args.history.now (drop c.loop-id.id-index c.args.order.now) c.loop-id.rows.store c.loop-id.replies.items
    (serial_run c.args.workload.now (submitted_calls c.args.history.now c.args.order.now)) (no_rest c.args.order.now c.loop-id.id-index end) c.loop-id.invariant
