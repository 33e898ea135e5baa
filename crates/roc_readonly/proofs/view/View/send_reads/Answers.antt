use Rattle.std.proofs.Common.{List, OnOk, subst}
use Rattle.roc_msg.specs.declared.outbox.Outgoing.{Outgoing}
use Rattle.roc_msg.specs.Outbox.{HasSent}
use Rattle.roc_readonly.proofs.Missing.{all_reads}
use Rattle.roc_readonly.proofs.view.View.send_reads.Goals as goal

pub returns : goal.returns
returns c =
    let are_sent : List Outgoing → Type 0 = λ sends. OnOk c.send_missing.result (HasSent c.args.outbox.now c.send_missing.new.outbox sends) in
    subst are_sent (all_reads c.args.plan.now c.args.self.now c.args.self.now.round) c.send_missing.ensures
