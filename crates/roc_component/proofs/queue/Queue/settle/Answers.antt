use Rattle.std.proofs.Common.{◌∙◌, Some, inl, inr, refl, sym, ap}
use Rattle.std.specs.BTreeMap.{get}
use Rattle.std.specs.BTreeSet.{contains}
use Rattle.roc_base.specs.TxnId.{txn_cmp}
use Rattle.roc_component.specs.declared.queue.Waiting.{Waiting}
use Rattle.roc_component.proofs.Queued.{readies}
use Rattle.roc_component.proofs.QueueSteps.{settles}
use Rattle.roc_component.proofs.queue.Queue.settle.Goals.{in-Some-remove, in-None-remove}
use Rattle.roc_component.proofs.queue.Queue.settle.Goals as goal

pub returns-in_ok-insert-in-None : goal.returns-in_ok-insert-in-None
returns-in_ok-insert-in-None c turns due pending left ids a l s =
    readies turns a c.args.taken.now due left (λ k. contains txn_cmp c.args.self.now.ready k) (λ u. get txn_cmp c.args.self.now.waiting u) pending c.args.waiting s
    ids l c.in-None.ensures (λ k. contains txn_cmp c.insert.new.self k) c.in_ok-insert-in-None.ensures.updates.0

pub returns-in_ok-insert-in-Some : goal.returns-in_ok-insert-in-Some
returns-in_ok-insert-in-Some c turns due pending left ids a l s =
    let x : Waiting = record { key = c.args.waiting.key; rest = c.open_at.new.rest } in
    settles turns a c.args.taken.now left (λ k. contains txn_cmp c.args.self.now.ready k) (λ u. get txn_cmp c.args.self.now.waiting u)
    due pending c.args.waiting x c.in-Some.id (λ u. get txn_cmp c.remove.new.self u) (λ u. get txn_cmp c.insert-in-Some.new.self u) c.match-remove.under c.push.new.self s
    refl c.in-Some.ensures c.remove.ensures.updates.0 c.in_ok-insert-in-Some.ensures.updates.0
    (elim c.match-remove.branch [
      | in-Some-remove w ↦ inl (sym c.remove.ensures.value ∙ (w.in-Some-remove.is ∙ ap Some (sym w.under-is)))
      | in-None-remove w ↦ inr (sym c.remove.ensures.value ∙ w.in-None-remove.is, w.under-is ∙ w.new-under.ensures)
    ])
    c.in_ok-push-in-Some.ensures.ok
