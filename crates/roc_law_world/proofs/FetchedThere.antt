-- What a server answers to a fetch it answers beside
use Rattle.std.proofs.Common.{◌≡◌, ◌∙◌, ℕ, zero, suc, ◌-◌, Bool, true, not, List, ◌++◌, Some, sym, ap, subst, arith}
use Rattle.std.proofs.lemmas.List.Elements.{filter-append}
use Rattle.std.specs.Prelude.{slice_get}
use Rattle.roc_sequence.specs.Lists.{Has}
use Rattle.roc_sequence.proofs.Members.{same_there, has_filter, from_has_filter}
use Rattle.roc_base.specs.declared.id.TxnId.{TxnId}
use Rattle.roc_base.specs.declared.node.Node.{Node}
use Rattle.roc_base.specs.declared.node.Node.TheVariants.{Server}
use Rattle.roc_base.specs.declared.node.Shard.{Shard}
use Rattle.roc_msg.specs.declared.msg.Msg.TheVariants.{Fetch, Settled}
use Rattle.roc_msg.specs.declared.msg.Envelope.{Envelope}
use Rattle.roc_plan.specs.Groups.{Plan}
use Rattle.roc_law_protocol.specs.declared.event.Event.TheVariants.{Deliver}
use Rattle.roc_law_protocol.specs.Happens as theirs
use Rattle.roc_law_protocol.specs.World as transactions
use Rattle.roc_law_world.specs.World.{World, mark_delivered}
use Rattle.roc_law_world.specs.Happens.{Outcome, IsReceived, Happens}
use Rattle.roc_law_world.specs.Beside.{is_of_view, is_of_transaction, of_transactions, number_among}
use Rattle.roc_law_world.proofs.Besides.{Holds}
use Rattle.roc_law_world.proofs.Steps.{served_there}

module _ (plan : Plan) (is_view : TxnId → Bool) (w : World) (t : transactions.World) (h : Holds plan is_view w t) where
  pub record IsFetchedThere (m : Envelope) (news : List Envelope) : Type 0 where
    pub number : ℕ
    pub outcome : theirs.Outcome
    pub more : List Envelope
    pub found : slice_get t.sent (number - 1) ≡ Some m
    pub happens : theirs.Happens plan t (Deliver number) outcome
    pub grown : outcome.world.sent ≡ t.sent ++ more
    -- the same settled are among them
    pub there : (e : Envelope) (x : TxnId) (mark : ℕ) → e.msg ≡ Settled x mark → Has e news → Has e more
    pub back : (e : Envelope) → Has e more → Has e news

  pub fetched_there : (k : ℕ) (m : Envelope) (x : TxnId) (asker shard : Shard) (o : Outcome) (more : List Envelope) → slice_get w.sent (k - 1) ≡ Some m → m.to ≡ Server shard → m.msg ≡ Fetch x asker
      → Happens plan w (Deliver k) o → o.world.sent ≡ w.sent ++ more → IsFetchedThere m more
  fetched_there zero m x asker shard o more at to is g grown = absurd (let p = g.1 in omega arith)
  fetched_there (suc j) m x asker shard o more at to is (a, some, stands, g) grown =
      let here : slice_get w.sent j ≡ Some m = subst (λ k. slice_get w.sent k ≡ Some m) (one_less j) at in
      let of : is_of_transaction m ≡ true = ap (λ msg. not (is_of_view msg)) is in
      let same : a ≡ m = same_there w.sent (suc j - 1) a m stands at in
      let taken = subst (λ (to : Node). IsReceived plan (mark_delivered w (suc j)) m.msg to o) to (subst (λ (a : Envelope). IsReceived plan (mark_delivered w (suc j)) a.msg a.to o) same g) in
      let s = served_there plan is_view w t h j m here of shard.0 o to taken in
      record {
        number = suc (number_among w.sent j);
        outcome = s.outcome;
        more = of_transactions more;
        found = s.found;
        happens = s.happens;
        grown = s.sent ∙ (ap of_transactions grown ∙ (filter-append is_of_transaction w.sent more ∙ ap (λ l. l ++ of_transactions more) (sym h.beside.sent)));
        there = λ e y mark settled has. has_filter is_of_transaction e more has (ap (λ msg. not (is_of_view msg)) settled);
        back = λ e has. (from_has_filter is_of_transaction e more has).0;
      }
    where
      one_less : (n : ℕ) → suc n - 1 ≡ n
      one_less n = omega arith
