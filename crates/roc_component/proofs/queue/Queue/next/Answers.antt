use Rattle.std.proofs.Common.{◌≡◌, ◌∙◌, ◌++◌, [], Some, is_some, refl, sym, ap, subst, arith}
use Rattle.std.proofs.lemmas.Bool.{false≢true}
use Rattle.std.specs.BTreeMap.{get, btree_map_len}
use Rattle.std.specs.BTreeSet.{contains}
use Rattle.std.specs.List.{list_any}
use Rattle.std.specs.Ordering.{is_eq}
use Rattle.roc_base.specs.declared.id.TxnId.{TxnId}
use Rattle.roc_base.specs.TxnId.{txn_cmp}
use Rattle.roc_component.specs.Inner.Queue.{IsQueue, IsTakenOut, left_of}
use Rattle.roc_component.proofs.OneChange.{no_key, one_less}
use Rattle.roc_component.proofs.QueueSteps.{out_ready, out_left}
use Rattle.roc_component.proofs.queue.Queue.next.Goals as goal

pub returns-in-Some : goal.returns-in-Some
returns-in-Some c turns taken a s =
    let left = left_of c.args.left.now in
    let k = c.in-Some.key in
    let o = out_ready turns a taken left (λ q. contains txn_cmp c.args.self.now.ready q) (λ u. get txn_cmp c.args.self.now.waiting u) s k (left_of c.remove.new.self) c.remove.ensures.updates.0
    c.in-Some.ensures.member c.in-Some.ensures.least (λ q. contains txn_cmp c.pop_first.new.self q) c.in-Some.ensures.updates.0 in
    let e = c.remove.ensures.value ∙ o.2 in
    subst (IsTakenOut turns taken c.args.left.now c.remove.new.self (record { ready = c.pop_first.new.self; waiting = c.args.self.now.waiting })) (sym e)
    (o.0, o.1, refl, o.3, o.4, o.5, one_less c.remove.result o.0.ids (btree_map_len c.remove.new.self) (btree_map_len c.args.left.now) e c.remove.ensures.len)

pub returns-in-Some-pop_first : goal.returns-in-Some-pop_first
returns-in-Some-pop_first c turns taken a s =
    let left = left_of c.args.left.now in
    let k = c.in-Some-pop_first.field-0-0 in
    let ids = c.in-Some-pop_first.ids in
    let waiting = λ (u : TxnId). get txn_cmp c.args.self.now.waiting u in
    let less = left_of c.pop_first-in-None.new.self in
    let e = c.in-Some-pop_first.ensures in
    let o = out_left turns a taken left (λ q. contains txn_cmp c.args.self.now.ready q) waiting s k less e.updates.0
    (λ q h. no_key (λ x. is_eq (txn_cmp q x)) c.args.self.now.ready.keys (λ l. false≢true (c.in-None.ensures.variant.1 l)) h) ids e.value (λ q other f. e.least q (ap is_some f)) in
    let f : Some ids ≡ Some o.0.ids = sym e.value ∙ o.2 in
    let g : ids ≡ o.0.ids = cc in
    let n = e.len in (
      o.0,
      o.1,
      g,
      o.3,
      o.4,
      subst (λ ks. IsQueue turns (taken ++ ids) ids [] less (λ q. list_any (λ x. is_eq (txn_cmp q x)) ks) waiting) (sym c.in-None.ensures.unchanged)
          (subst (λ l. IsQueue turns (taken ++ l) l [] less (λ q. contains txn_cmp c.args.self.now.ready q) waiting) (sym g) o.5),
      omega arith,
    )
