use Rattle.roc_audit_witness.proofs.Steps.{runs_it}
use Rattle.roc_audit_witness.proofs.runs.run_call.Goals as goal

pub returns : goal.returns
returns c =
    runs_it c.args.workload.now c.args.id c.args.proc c.args.args.now c.args.rows.now.store c.reply_of.new.rows.store c.args.replies.now.items c.push.new.self.items c.in_ok-reply.reply
    c.in_ok-reply.ensures.store c.in_ok-reply.ensures.reply c.in_ok-push.ensures.items
