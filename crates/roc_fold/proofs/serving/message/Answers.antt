use Rattle.std.proofs.Common.{List, ◌++◌, refl, sym, ap, ◌∙◌}
use Rattle.roc_base.specs.declared.id.TxnId.{TxnId}
use Rattle.roc_msg.specs.declared.outbox.Outgoing.{Outgoing}
use Rattle.roc_msg.specs.declared.outbox.Ran.{Ran}
use Rattle.roc_step.specs.Runs.{accesses_of}
use Rattle.roc_log.specs.Sent.{outs_logged}
use Rattle.roc_fold.specs.Fold.{GivenByEvent, serving}
use Rattle.roc_fold.proofs.Taking.{gained}
use Rattle.roc_fold.proofs.serving.message.Goals as goal
use Rattle.roc_judge.proofs.Timed.{on_ok_three}

pub returns-in-Ok-clause-gives : goal.returns-in-Ok-clause-gives
returns-in-Ok-clause-gives c =
    let step = c.in-Ok.ensures.step in
    let r = step.0 in
    let q = step.1 in
    let shows = step.4 in
    let given : GivenByEvent = record { core = serving r.state q.viewing; due = outs_logged c.args.header.now (r.sends ++ q.sends); decided = r.decided; ran = accesses_of r.ran } in
    on_ok_three c.take_outbox.result c.take_outbox.ensures.due c.take_outbox.ensures.decided c.take_outbox.ensures.ran (λ due decided ran. (
      given,
      record { step = r; reads = q; handles = step.2; answers = step.3; is = refl },
      gained (serving c.args.server.now.state c.args.server.now.viewing) (serving c.handle.new.self.state c.handle.new.self.viewing) c.args.gathered.now c.take_outbox.new.gathered given _ _ _
          (λ i. serving (sym shows.keeps i) (sym shows.views i)) due.0 due.1 (ap (outs_logged c.args.header.now)
          (shows.sends ∙ ap (λ (xs : List Outgoing). xs ++ (r.sends ++ q.sends)) c.new-outbox.ensures.messages))
          decided (shows.decides ∙ ap (λ (xs : List TxnId). xs ++ r.decided) c.new-outbox.ensures.decided) ran (shows.ran ∙ ap (λ (xs : List Ran). xs ++ accesses_of r.ran) c.new-outbox.ensures.ran),
    ))
