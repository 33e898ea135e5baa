use Rattle.std.proofs.Common.{◌∙◌, sym, ap}
use Rattle.std.specs.List.{filter_map}
use Rattle.roc_sequence.proofs.Fronts.{rest_at, no_rest}
use Rattle.roc_whole.specs.Serial.{serial_answers}
use Rattle.roc_audit.specs.Witness.{reply_in}
use Rattle.roc_judge.specs.Inner.Sets.{call_in, found_at, first_of}
use Rattle.roc_judge.proofs.Replied.{runs_step, first_none}
use Rattle.roc_judge.proofs.replies.serial_replies.Goals as goal

pub loop-id-preserved : goal.loop-id-preserved
loop-id-preserved c t =
    runs_step c.args.workload.now (call_in c.args.calls.now.entries) c.loop-id.rows.store c.run_one.new.rows.store c.loop-id.runs.entries c.run_one.new.runs.entries _ _ _ t
    c.in_ok-run_one.ensures (rest_at c.args.order.now c.loop-id.id-index (record { coord = 0; seq = 0 }) c.loop-id-test.true)
    ∙ c.loop-id.invariant t

pub returns : goal.returns
returns c t =
    sym (first_none (found_at t c.loop-id.runs.entries))
    ∙ (ap (λ ids. first_of (found_at t c.loop-id.runs.entries) (reply_in t (serial_answers c.args.workload.now c.loop-id.rows.store (filter_map (call_in c.args.calls.now.entries) ids))))
    (sym (no_rest c.args.order.now c.loop-id.id-index c.loop-id-test.false))
    ∙ c.loop-id.invariant t)
