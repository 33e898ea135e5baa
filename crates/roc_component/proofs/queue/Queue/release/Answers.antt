use Rattle.std.proofs.Common.{◌+◌, ◌∙◌, [], drop, get_or, sym, subst}
use Rattle.std.specs.BTreeMap.{get}
use Rattle.std.specs.BTreeSet.{contains}
use Rattle.roc_base.specs.declared.id.TxnId.{TxnId}
use Rattle.roc_base.specs.TxnId.{txn_cmp}
use Rattle.roc_component.specs.declared.queue.Queue.{Queue}
use Rattle.roc_component.specs.Inner.Queue.{IsQueueOf, left_of}
use Rattle.roc_sequence.proofs.Fronts.{rest_at}
use Rattle.roc_component.proofs.Queued.{releases, releases_none}
use Rattle.roc_component.proofs.queue.Queue.release.Goals.{in-Some+in_ok-settle_all, in_default}
use Rattle.roc_component.proofs.queue.Queue.release.Goals as goal

pub loop-id-preserved : goal.loop-id-preserved
loop-id-preserved c turns a s =
    let none : TxnId = record { coord = 0; seq = 0 } in
    let id = get_or c.args.ids.now c.loop-id.id-index none in
    let due = drop (c.loop-id.id-index + 1) c.args.ids.now in
    let left = left_of c.args.left.now in
    let ready = λ (k : TxnId). contains txn_cmp c.loop-id.self.ready k in
    let waiting = λ (u : TxnId). get txn_cmp c.loop-id.self.waiting u in
    let more = λ (u : TxnId). get txn_cmp c.remove.new.self u in
    let q = subst (λ v. IsQueueOf turns c.args.taken.now v [] left c.loop-id.self) (rest_at c.args.ids.now c.loop-id.id-index none c.loop-id-test.true) (c.loop-id.invariant turns a s) in
    elim c.match-remove.branch [
      | in-Some+in_ok-settle_all w ↦
          (let e = sym c.remove.ensures.value ∙ w.in-Some.is in
          subst (λ (v : Queue). IsQueueOf turns c.args.taken.now due [] left v) (sym w.self-is)
          (w.in_ok-settle_all.ensures turns due a
          (subst (λ v. IsQueueOf turns c.args.taken.now due v left (record { ready = c.loop-id.self.ready; waiting = c.remove.new.self })) (sym w.into_vec.ensures)
          (releases turns a c.args.taken.now due left ready waiting id q more c.remove.ensures.updates.0 w.in-Some.held e))))
      | in_default w ↦
          subst (λ (v : Queue). IsQueueOf turns c.args.taken.now due [] left v) (sym w.self-is)
          (releases_none turns a c.args.taken.now due left ready waiting id q more c.remove.ensures.updates.0 (sym c.remove.ensures.value ∙ w.in_default.is))
    ]
