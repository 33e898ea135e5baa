-- What a coordinator does aside of transactions is no step of the log
use Rattle.std.proofs.Common.{◌≡◌, ℕ, ◌+◌, ◌<◌, ◌≤◌, List, [], Some, sym, subst, ◌⊎◌, inl, inr, arith}
use Rattle.std.proofs.lemmas.Bool.{cases_lt}
use Rattle.std.specs.Prelude.{slice_get}
use Rattle.roc_sequence.specs.Lists.{Has}
use Rattle.roc_base.specs.declared.id.TxnId.{TxnId}
use Rattle.roc_msg.specs.declared.outbox.Outgoing.{Outgoing}
use Rattle.roc_plan.specs.Groups.{Plan}
use Rattle.roc_whole.specs.Serial as whole
use Rattle.roc_law_log.specs.Scheme.{Scheme}
use Rattle.roc_law_log.specs.Log.{Log}
use Rattle.roc_law_log.specs.Invariants.{LogInvariants}
use Rattle.roc_coord.specs.declared.transaction.Transaction.{Transaction}
use Rattle.roc_coord.specs.State.{CoordState}
use Rattle.roc_coord.specs.Submit.{next_id}
use Rattle.roc_law_protocol.specs.PlanAssumptions.{IsSchemeOf}
use Rattle.roc_law_protocol.specs.Beginnings.{Beginning}
use Rattle.roc_law_protocol.specs.World.{World}
use Rattle.roc_law_protocol.specs.Inner.Given.{LogLaws}
use Rattle.roc_law_protocol.proofs.Means.{IsOther, IsPast, CoordMeans, WorldMeans}
use Rattle.roc_law_protocol.proofs.KeptAside.{IsKeptAside, aside_onward}
use Rattle.roc_law_protocol.proofs.Coordinated.{IsCoordinated, still, mark_means, mark_starts}

module _ (plan : Plan) (asked : TxnId → whole.Call) (S : Scheme) (start : Beginning) (is : IsSchemeOf plan asked S) (laws : LogLaws S start.store) (c : Log) (i : LogInvariants S start.store c) (w : World) (o : WorldMeans plan asked S start c w) (n : ℕ) (s : CoordState) (there : slice_get w.coords n ≡ Some s) (Of : TxnId → Type 0) (of : (x : Transaction) → Has x s.pending → Of x.id) where
  mine : CoordMeans plan asked S start c s
  mine = o.coords n s there

  -- where it uses the next sequence, that is of no transaction

  module _ (after : CoordState) (outs : List Outgoing) (k : IsKeptAside plan s after outs) (other : after.next ≡ s.next + 1 → IsOther asked start (next_id s)) where
    was_pending : (x : Transaction) → Has x after.pending → Has x s.pending
    was_pending x h = subst (λ l. Has x l) k.pending h

    aside_means : CoordMeans plan asked S start c after
    aside_means =
        record {
          pending = λ x h. mine.pending x (was_pending x h);
          unanswered = λ x h. k.unanswered x (was_pending x h) (mine.unanswered x (was_pending x h));
          views = λ u h. elim (k.views u h) [ inl j ↦ mine.views u j | inr j ↦ subst (IsOther asked start) (sym j.0) (other j.1.is) ];
          all = λ q l. subst (λ n. ((x : Transaction) × Has x after.pending × (x.id ≡ record { coord = n; seq = q })) ⊎ IsPast plan asked S start c (record { coord = n; seq = q })) (sym k.number) (each q l (cases_lt q s.next));
          onward = subst (λ n. start.nexts n ≤ after.next) (sym k.number) (let a = mine.onward in let b = aside_onward plan s after outs k in omega arith);
        }
      where
        each : (q : ℕ) → q < after.next → (q < s.next) ⊎ (s.next ≤ q)
            → ((x : Transaction) × Has x after.pending × (x.id ≡ record { coord = s.number; seq = q })) ⊎ IsPast plan asked S start c (record { coord = s.number; seq = q })
        each q l (inl below) = elim (mine.all q below) [ inl p ↦ inl (p.0, subst (λ l. Has p.0 l) (sym k.pending) p.1, p.2) | inr h ↦ inr h ]
        each q l (inr late) = elim k.next [
          | inl e ↦ absurd (omega (arith, l, late, e))
          | inr u ↦
              (let e = u.is in
              let same : s.next ≡ q = omega (arith, l, late, e) in
              inr (inr (subst (λ q. IsOther asked start (record { coord = s.number; seq = q })) same (other e))))
        ]

    pub aside_coordinated : IsCoordinated plan asked S start is laws c i w o n s there Of of after outs []
    aside_coordinated =
        still plan asked S start is laws c i w o n s there Of of after outs [] aside_means (λ out h. mark_means plan asked S start is laws c i w o n s there Of of c after aside_means out (k.marks out h)) (λ t reply h. h) (λ out h. mark_starts plan asked S start is laws c i w o n s there Of of after out (k.marks out h)) (λ x h. of x (was_pending x h))
