-- In every world no message is refused, where none is beside
use Rattle.std.proofs.Common.{◌≡◌, ◌∙◌, inl, inr, ℕ, zero, suc, ◌-◌, Bool, true, false, List, Some, refl, sym, ap, subst, arith}
use Rattle.std.proofs.lemmas.Bool.{not-false}
use Rattle.std.specs.Prelude.{slice_get}
use Rattle.roc_sequence.proofs.Members.{has_at, same_there}
use Rattle.roc_base.specs.declared.id.TxnId.{TxnId}
use Rattle.roc_base.specs.declared.node.Node.{Node}
use Rattle.roc_base.specs.declared.node.Node.TheVariants.{Server, Coord}
use Rattle.roc_base.specs.declared.node.Shard.{Shard}
use Rattle.roc_msg.specs.declared.msg.Envelope.{Envelope}
use Rattle.roc_msg.specs.declared.reason.Reason.{Reason}
use Rattle.roc_msg.specs.declared.reason.Reason.TheVariants.{Stale}
use Rattle.roc_plan.specs.Groups.{Plan}
use Rattle.roc_plan.specs.Accepted.{IsAccepted}
use Rattle.roc_whole.specs.Serial as whole
use Rattle.roc_law_protocol.specs.declared.event.Event.TheVariants.{Deliver}
use Rattle.roc_law_protocol.specs.declared.event.Seen.TheVariants as seen
use Rattle.roc_law_protocol.specs.Happens as theirs
use Rattle.roc_law_world.specs.World.{World, Beginning, mark_delivered}
use Rattle.roc_law_world.specs.Happens.{Outcome, IsReceived, Happens}
use Rattle.roc_law_world.specs.Run.{Stepped, IsRunFrom}
use Rattle.roc_law_world.specs.Beside.{is_of_view, is_of_transaction, number_among}
use Rattle.roc_law_world.proofs.ReadsFit.{ReadsFit}
use Rattle.roc_law_world.proofs.ReadsFitRuns.{Numbers, numbers_in_runs, reads_fit_in_runs}
use Rattle.roc_law_world.proofs.Runs.{IsRunBeside}
use Rattle.roc_law_world.proofs.TakenHere.{one_less, IsTakenSo, seen_beside, view_served, view_ignored}
use Rattle.roc_law_world.proofs.ViewMeans.{TellsCalls, is_view_id}

module _ (plan : Plan) (b : Beginning) (coords : ℕ) (steps : List Stepped) (w : World) (run : IsRunFrom plan b coords steps w) (accepted : IsAccepted plan)
    (calls : TxnId → whole.Call) (tells : TellsCalls calls w.history) (x : IsRunBeside plan b coords (is_view_id plan calls) steps w)
  where
    fit : ReadsFit plan calls w
    fit = reads_fit_in_runs plan calls b coords accepted steps w run tells

    numbers : Numbers plan calls w
    numbers = numbers_in_runs plan calls b coords accepted steps w run tells

    abbrev TheyTake : Type 0
    TheyTake = (k : ℕ) (m : Envelope) (shard : Shard) (o : theirs.Outcome)
        → slice_get x.world.sent (k - 1) ≡ Some m → m.to ≡ Server shard → theirs.Happens plan x.world (Deliver k) o → IsTakenSo o.seen

    abbrev TheyIgnore : Type 0
    TheyIgnore = (k : ℕ) (o : theirs.Outcome) (why : Reason) → theirs.Happens plan x.world (Deliver k) o → o.seen ≡ seen.Ignored why → why ≡ Stale

    -- a message of views comes to a server
    served : (j : ℕ) (m : Envelope) → slice_get w.sent j ≡ Some m → is_of_transaction m ≡ false → (shard : Shard) (o : Outcome) → m.to ≡ Server shard
        → IsReceived plan (mark_delivered w (suc j)) m.msg m.to o → IsTakenSo o.seen
    served j m at of shard o to g =
        view_served plan calls w fit numbers (suc j) m (fit.messages m (has_at w.sent j m at)) (not-false (is_of_view m.msg) of) shard.0 to o
        (subst (λ (t : Node). IsReceived plan (mark_delivered w (suc j)) m.msg t o) to g)

    pub servers_take : TheyTake → (k : ℕ) (m : Envelope) (shard : Shard) (o : Outcome) → slice_get w.sent (k - 1) ≡ Some m → m.to ≡ Server shard → Happens plan w (Deliver k) o → IsTakenSo o.seen
    servers_take they_take zero m shard o there to h = absurd (let p = h.1 in omega arith)
    servers_take they_take (suc j) m shard o there to (a, p, at, h) = go (is_of_transaction m) refl
        (subst (λ (a : Envelope). IsReceived plan (mark_delivered w (suc j)) a.msg a.to o) (same_there w.sent (suc j - 1) a m at there) h)
      where
        here : slice_get w.sent j ≡ Some m
        here = subst (λ k. slice_get w.sent k ≡ Some m) (one_less j) there

        go : (c : Bool) → is_of_transaction m ≡ c → IsReceived plan (mark_delivered w (suc j)) m.msg m.to o → IsTakenSo o.seen
        go true of g =
            let s = seen_beside plan (is_view_id plan calls) w x.world x.holds j m here of o g in
            subst IsTakenSo s.same (they_take (suc (number_among w.sent j)) m shard s.outcome s.found to s.happens)
        go false of g = served j m here of shard o to g

    pub coordinators_ignore : TheyIgnore → (k : ℕ) (o : Outcome) (why : Reason) → Happens plan w (Deliver k) o → o.seen ≡ seen.Ignored why → why ≡ Stale
    coordinators_ignore they_ignore zero o why h ignored = absurd (let p = h.1 in omega arith)
    coordinators_ignore they_ignore (suc j) o why (m, p, at, h) ignored = go (is_of_transaction m) refl
      where
        here : slice_get w.sent j ≡ Some m
        here = subst (λ k. slice_get w.sent k ≡ Some m) (one_less j) at

        no_reason : IsTakenSo o.seen → ⊥
        no_reason (inl e) = apart (sym e ∙ ignored)
          where
            apart : seen.Done ≡ seen.Ignored why → ⊥
            apart e = cc
        no_reason (inr e) = apart (sym e ∙ ignored)
          where
            apart : seen.Gone ≡ seen.Ignored why → ⊥
            apart e = cc

        by_node : is_of_transaction m ≡ false → (to : Node) → m.to ≡ to → IsReceived plan (mark_delivered w (suc j)) m.msg to o → why ≡ Stale
        by_node of (Server shard) to g = absurd (no_reason (served j m here of shard o to (subst (λ (t : Node). IsReceived plan (mark_delivered w (suc j)) m.msg t o) (sym to) g)))
        by_node of (Coord n) to (s, found, is) =
            view_ignored plan calls s (x.holds.coords n s found) (fit.views n s found) n m.msg m.to to (fit.messages m (has_at w.sent j m here)) (not-false (is_of_view m.msg) of) why
            (sym (ap (λ (o : Outcome). o.seen) is) ∙ ignored)

        go : (c : Bool) → is_of_transaction m ≡ c → why ≡ Stale
        go true of =
            let s = seen_beside plan (is_view_id plan calls) w x.world x.holds j m here of o h in
            they_ignore (suc (number_among w.sent j)) s.outcome why s.happens (s.same ∙ ignored)
        go false of = by_node of m.to refl h
