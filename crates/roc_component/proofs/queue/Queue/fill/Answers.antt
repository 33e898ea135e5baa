use Rattle.std.proofs.Common.{◌∙◌, ◌++◌, ◌∷◌, [], refl, ap, sym, subst, append_assoc}
use Rattle.roc_base.specs.declared.id.TxnId.{TxnId}
use Rattle.std.specs.BTreeMap.{get}
use Rattle.std.specs.BTreeSet.{contains}
use Rattle.roc_base.specs.TxnId.{txn_cmp}
use Rattle.roc_component.specs.declared.queue.Waiting.{Waiting}
use Rattle.roc_component.specs.Inner.Queue.{IsQueueOf, left_of}
use Rattle.roc_component.specs.Inner.Turns.{AreTurns}
use Rattle.roc_component.proofs.Queued.{turns_behind, files, files_key}
use Rattle.roc_component.proofs.queue.Queue.fill.Goals as goal

pub fill-preserved : goal.fill-preserved
fill-preserved c =
    let i = c.fill.invariant in
    let t = c.in-Some.turn in
    let e = i.1 ∙ (ap (λ l. l ++ i.0) c.in-Some.ensures.items ∙ append_assoc c.pop.new.self.items (t ∷ []) i.0) in
    let a = turns_behind c.pop.new.self.items (t ∷ i.0) (subst AreTurns e c.requires.turns) in
    let w : Waiting = record { key = t.key; rest = c.into_vec.result } in
    let left = left_of c.fill.left in
    let more = left_of c.insert.new.self in
    let ready = λ (k : TxnId). contains txn_cmp c.fill.self.ready k in
    let waiting = λ (u : TxnId). get txn_cmp c.fill.self.waiting u in
    let f = files i.0 t a left more ready waiting i.2 c.in_ok-insert.ensures.updates.0 w refl c.into_vec.ensures in
    let k = files_key i.0 t a left more ready waiting i.2 c.in_ok-insert.ensures.updates.0 w refl c.into_vec.ensures in
    let s = c.in_ok-settle.ensures (t ∷ i.0) [] [] more t.ids a k (subst (λ v. IsQueueOf (t ∷ i.0) v [] ([] ++ w ∷ []) more c.fill.self) (sym c.requires.none) f) in
    (t ∷ i.0, e, subst (λ v. IsQueueOf (t ∷ i.0) v [] [] more c.settle.new.self) c.requires.none s)
