use Rattle.std.proofs.Common.{subst}
use Rattle.std.specs.BTreeMap.{get}
use Rattle.std.specs.BTreeSet.{contains}
use Rattle.roc_base.specs.TxnId.{txn_cmp}
use Rattle.roc_component.specs.Inner.Queue.{IsQueueOf, left_of}
use Rattle.roc_component.proofs.OneChange.{is_there, is_gone}
use Rattle.roc_component.proofs.Queued.{skips}
use Rattle.roc_component.proofs.queue.Queue.settle_all.Goals as goal

pub settle-preserved-in-Continue-1 : goal.settle-preserved-in-Continue-1
settle-preserved-in-Continue-1 c turns due a s =
    let w = c.in-Some.waiting in
    let l = is_there (left_of c.args.left.now w.key) c.if-contains_key.ensures in
    c.in_ok-settle.ensures turns due c.pop.new.self.items (left_of c.args.left.now) l.0 a l.1
    (subst (λ v. IsQueueOf turns c.args.taken.now due v (left_of c.args.left.now) c.settle.self) c.in-Some.ensures.items (c.settle.invariant turns due a s))

pub settle-preserved : goal.settle-preserved
settle-preserved c turns due a s =
    let w = c.in-Some.waiting in
    skips turns a c.args.taken.now due (left_of c.args.left.now) (λ k. contains txn_cmp c.settle.self.ready k) (λ u. get txn_cmp c.settle.self.waiting u) c.pop.new.self.items w
    (subst (λ v. IsQueueOf turns c.args.taken.now due v (left_of c.args.left.now) c.settle.self) c.in-Some.ensures.items (c.settle.invariant turns due a s))
    (is_gone (left_of c.args.left.now w.key) c.if-contains_key.ensures)
