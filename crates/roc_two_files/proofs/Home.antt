-- Each startok, commitok and readok in the network is of a submitted id, and goes to its coordinator
use Rattle.std.proofs.Common.{◌≡◌, ◌∙◌, ℕ, false, not, List, refl, ap, sym, subst}
use Rattle.roc_sequence.specs.Lists.{Has}
use Rattle.roc_sequence.specs.Places.{IsListed}
use Rattle.roc_sequence.proofs.Members.{has_filter, from_has_filter}
use Rattle.roc_base.specs.declared.id.TxnId.{TxnId}
use Rattle.roc_base.specs.TxnId.{is_txn}
use Rattle.roc_msg.specs.declared.msg.Envelope.{Envelope}
use Rattle.roc_msg.specs.declared.msg.Msg.{Msg}
use Rattle.roc_msg.specs.declared.msg.Msg.TheVariants.{StartOk, CommitOk, ReadOk, Drained, Switched}
use Rattle.roc_plan.specs.Groups.{Plan}
use Rattle.roc_whole.specs.Serial as whole
use Rattle.roc_law_orders.specs.Behaviour.{TxnGroup}
use Rattle.roc_law_log.specs.Scheme.{Scheme}
use Rattle.roc_law_log.specs.Log.{Log}
use Rattle.roc_audit.specs.declared.entry.Entry.TheVariants.{Submitted}
use Rattle.roc_audit.specs.History.{WasSubmitted}
use Rattle.roc_audit.specs.Woven.{entry_id}
use Rattle.roc_law_protocol.proofs.Means.{Means, Began, run_of}
use Rattle.roc_law_world.specs.World.{World, Beginning}
use Rattle.roc_law_world.specs.Beside.{is_of_view, is_of_transaction}
use Rattle.roc_law_world.specs.Run.{Stepped, IsRunFrom}
use Rattle.roc_law_world.proofs.ViewMeans.{MessageIsFor}
use Rattle.roc_law_world.proofs.WovenOrder.{called_in, is_view, run_beside}
use Rattle.roc_two_files.specs.Home.{GoesHome}

module _ (plan : Plan) (b : Beginning) (coords : ℕ) (steps : List Stepped) (w : World) (run : IsRunFrom plan b coords steps w) where
  -- who was submitted beside was submitted
  here : (t : TxnId) → WasSubmitted (run_beside plan b coords steps w run).world.history t → WasSubmitted w.history t
  here t (p, a, h) =
      let v = is_view plan b coords steps w run in
      let beside = (run_beside plan b coords steps w run).holds.beside in
      (p, a, (from_has_filter (λ e. not (v (entry_id e))) (Submitted t p a) w.history (subst (Has (Submitted t p a)) beside.history h)).0)

  -- where a log tells what each message of transactions means, and who began or was decided there was submitted
  module _ (asked : TxnId → whole.Call) (S : Scheme) (log : Log)
      (means : (m : Envelope) → Has m (run_beside plan b coords steps w run).world.sent → Means plan asked S b.of_transactions log m.msg m.to)
      (began : (r : TxnGroup) → Began plan asked S b.of_transactions log r → WasSubmitted (run_beside plan b coords steps w run).world.history r.txn)
      (decided : (n : ℕ) (t : TxnId) → IsListed is_txn (log.decided n) t → WasSubmitted (run_beside plan b coords steps w run).world.history t)
      (reads : (m : Envelope) → Has m w.sent → MessageIsFor plan (called_in w.history) w.history m.msg m.to) where
    pub goes_home : (m : Envelope) → Has m w.sent → GoesHome w.history m.msg m.to
    goes_home m h = go m.msg refl
      where
        meant : (msg : Msg) → m.msg ≡ msg → is_of_view msg ≡ false → Means plan asked S b.of_transactions log msg m.to
        meant msg e plain =
            let beside = (run_beside plan b coords steps w run).holds.beside in
            let there = has_filter is_of_transaction m w.sent h (ap (λ x. not (is_of_view x)) e ∙ ap not plain) in
            subst (λ msg. Means plan asked S b.of_transactions log msg m.to) e (means m (subst (Has m) (sym beside.sent) there))

        go : (msg : Msg) → m.msg ≡ msg → GoesHome w.history msg m.to
        go (StartOk id group shard bound outs edges facts) e = let x = meant _ e refl in (here id (began (run_of id group) x.0.began), x.2)
        go (CommitOk id shard outs) e = let x = meant _ e refl in (here id (decided shard.0 id x.0.decided), x.1)
        go (ReadOk id round group shard versions outs) e =
            let x = subst (λ msg. MessageIsFor plan (called_in w.history) w.history msg m.to) e (reads m h) in
            (x.0.submitted, x.1)
        go (Drained upto) e = absurd (meant _ e refl)
        go (Switched upto shard) e = absurd (meant _ e refl)
        go msg e = tt
