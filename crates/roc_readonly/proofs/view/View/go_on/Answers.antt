use Rattle.std.proofs.Common.{List, subst}
use Rattle.roc_msg.specs.declared.outbox.Outgoing.{Outgoing}
use Rattle.roc_msg.specs.Outbox.{HasSent}
use Rattle.roc_readonly.proofs.Missing.{all_reads}
use Rattle.roc_readonly.proofs.Sends.{appended}
use Rattle.roc_readonly.proofs.view.View.go_on.Goals as goal

pub returns-clause-sent : goal.returns-clause-sent
returns-clause-sent c =
    let are_sent : List Outgoing → Type 0 = λ sends. HasSent c.args.outbox.now c.append.new.self sends in
    subst are_sent (all_reads c.args.plan.now c.args.self.now _)
    (appended c.args.outbox.now c.append.new.self c.new-sends.result c.send_missing.new.outbox _ c.new-sends.ensures.messages c.new-sends.ensures.decided c.new-sends.ensures.ran c.in_ok-send_missing.ensures c.in_ok-append.ensures.ok)
