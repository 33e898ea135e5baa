-- What each step keeps, and what holds of each log that is reached
use Rattle.std.proofs.Common.{List, [], ◌∷◌, ◌++◌, append-nil, append_assoc, refl, sym, ap, subst, ◌∙◌, arith, inl, inr}
use Rattle.roc_sequence.specs.Places.{IsListed, NoneTwice}
use Rattle.roc_sequence.proofs.Holds.{all_weaker}
use Rattle.roc_sequence.proofs.Listed.{listed_one}
use Rattle.roc_sequence.proofs.Appended.{listed_front, listed_either}
use Rattle.roc_base.specs.declared.id.TxnId.{TxnId}
use Rattle.roc_base.specs.TxnId.{is_txn}
use Rattle.roc_base.specs.Equalities.{is_txn-true, is_txn-same}
use Rattle.roc_rows.specs.Store.{Store}
use Rattle.roc_law_orders.specs.Behaviour.{TxnGroup, is_txn_group}
use Rattle.roc_law_orders.specs.Runs.{needs}
use Rattle.roc_law_orders.specs.Orders.{StandOneByOne}
use Rattle.roc_law_orders.specs.Growth.{Stays}
use Rattle.roc_law_log.specs.Scheme.{Scheme, IsSoundScheme}
use Rattle.roc_law_log.specs.Log.{Log, first_log, IsDecidedThroughout}
use Rattle.roc_law_log.specs.Steps.{with_answer, LogStep, group_starts, shard_decides, is_answered, LogSteps, no_steps, one_step_more, IsReachedLog}
use Rattle.roc_law_log.specs.Invariants.{LogInvariants, Continues, LogGrows}
use Rattle.roc_law_log.proofs.Starting.{start-grows, start-kept}
use Rattle.roc_law_log.proofs.Deciding.{decide-grows, decide-kept}

-- ---- lists that go on

continues_more : {A : Type 0} (xs ys zs : List A) → Continues xs ys → Continues ys zs → Continues xs zs
continues_more xs ys zs a b = (a.0 ++ b.0, b.1 ∙ (ap (λ l. l ++ b.0) a.1 ∙ append_assoc xs a.0 b.0))

pub in_continued : (xs ys : List TxnGroup) → Continues xs ys → (r : TxnGroup) → IsListed is_txn_group xs r → IsListed is_txn_group ys r
in_continued xs ys e r h = subst (λ l. IsListed is_txn_group l r) (sym e.1) (listed_front is_txn_group xs e.0 r h)

module _ (S : Scheme) (start : Store) where
  pub grows_itself : (w : Log) → LogGrows S start w w
  grows_itself w =
      record {
        started = ([], sym (append-nil w.past.started));
        ran = ([], sym (append-nil w.past.ran));
        decided = λ s. ([], sym (append-nil (w.decided s)));
        order = ([], sym (append-nil w.order));
        answered = ([], sym (append-nil w.answered));
        yielded = λ r h. refl;
        inputs = λ r h. refl;
        uses = λ r h. refl;
        precedes = λ u r h. (λ p. p, λ p. p);
      }

  pub grows_more : (v w x : Log) → LogGrows S start v w → LogGrows S start w x → LogGrows S start v x
  grows_more v w x a b =
      record {
        started = continues_more v.past.started w.past.started x.past.started a.started b.started;
        ran = continues_more v.past.ran w.past.ran x.past.ran a.ran b.ran;
        decided = λ s. continues_more (v.decided s) (w.decided s) (x.decided s) (a.decided s) (b.decided s);
        order = continues_more v.order w.order x.order a.order b.order;
        answered = continues_more v.answered w.answered x.answered a.answered b.answered;
        yielded = λ r h. b.yielded r (in_continued v.past.ran w.past.ran a.ran r h) ∙ a.yielded r h;
        inputs = λ r h. b.inputs r (all_weaker (IsListed is_txn_group v.past.ran) (IsListed is_txn_group w.past.ran) (in_continued v.past.ran w.past.ran a.ran) (needs S.behaviour r) h) ∙ a.inputs r h;
        uses = λ r h. b.uses r (in_continued v.past.started w.past.started a.started r h) ∙ a.uses r h;
        precedes = λ u r h.
            let p = a.precedes u r h in
            let q = b.precedes u r (in_continued v.past.started w.past.started a.started r h) in
            (λ k. q.0 (p.0 k), λ k. p.1 (q.1 k));
      }

  -- ---- an answer

  answer-grows : (w : Log) (t : TxnId) → LogGrows S start w (with_answer w t)
  answer-grows w t = let g = grows_itself w in
      record {
        started = g.started;
        ran = g.ran;
        decided = g.decided;
        order = g.order;
        answered = (t ∷ [], refl);
        yielded = g.yielded;
        inputs = g.inputs;
        uses = g.uses;
        precedes = g.precedes;
      }

  answer-kept : (w : Log) (t : TxnId) → IsDecidedThroughout S start w t → LogInvariants S start w → LogInvariants S start (with_answer w t)
  answer-kept w t may i =
      record {
        started_once = i.started_once;
        are_groups = i.are_groups;
        needs_ran = i.needs_ran;
        ran_once = i.ran_once;
        ran_started = i.ran_started;
        behind_needs = i.behind_needs;
        now_ran = i.now_ran;
        now_order = i.now_order;
        later_ran = i.later_ran;
        later_decided = i.later_decided;
        later_order = i.later_order;
        whole = i.whole;
        in_order = i.in_order;
        decided = λ s. let l = i.decided s in record {
          once = l.once;
          closed = λ u v h e. elim (l.closed u v h e) [ inl k ↦ inl k | inr z ↦ inr (λ m k. listed_front is_txn w.answered (t ∷ []) m (z m k)) ];
          earlier = l.earlier;
          whole = l.whole;
          inside = l.inside;
        };
        order = i.order;
        left_out = λ r u h k. let z = i.left_out r u h k in record { decided = z.decided; earlier = z.earlier; earlier_here = z.earlier_here };
        answered = λ u h.
            let d : IsDecidedThroughout S start w u = elim (listed_either is_txn w.answered (t ∷ []) u h) [
              | inl j ↦ i.answered u j
              | inr j ↦ subst (IsDecidedThroughout S start w) (sym (listed_one is_txn is_txn-true is_txn-same t u j.1)) may
            ] in
            record { in_order = d.in_order; everywhere = d.everywhere };
      }

  -- ---- the first log

  first-kept : LogInvariants S start first_log
  first-kept =
      record {
        started_once = tt;
        are_groups = λ r h. absurd (omega arith);
        needs_ran = λ r h. absurd (omega arith);
        ran_once = tt;
        ran_started = λ r h. absurd (omega arith);
        behind_needs = λ r h. absurd (omega arith);
        now_ran = λ r h e. absurd (omega arith);
        now_order = λ q r d e h b. absurd (omega arith);
        later_ran = λ r h e d. absurd (omega arith);
        later_decided = λ r h e. absurd (omega arith);
        later_order = λ q r d e s h b. absurd (omega arith);
        whole = λ t h. absurd (omega arith);
        in_order = λ s t h. absurd (omega arith);
        decided = λ s. record {
          once = tt;
          closed = λ u t h e. absurd (omega arith);
          earlier = λ u t h k e n. absurd (omega arith);
          whole = λ t c h k m. absurd (omega arith);
          inside = λ t c h k m. absurd (omega arith);
        };
        order = record {
          once = tt;
          closed = λ u t h e. absurd (omega arith);
          earlier = λ u t h e n. absurd (omega arith);
          together = λ a b t h m n k. absurd (omega arith);
          inside = λ t h. absurd (omega arith);
        };
        left_out = λ r t h k. absurd (omega arith);
        answered = λ t h. absurd (omega arith);
      }

  -- ---- each step

  module _ (stays : (Q T : List TxnGroup) → NoneTwice is_txn_group (Q ++ T) → Stays S.behaviour start Q T) (stand : (O : List TxnId) → StandOneByOne S.behaviour O) (sound : IsSoundScheme S) where
    pub step-kept : (v w : Log) → LogInvariants S start v → LogStep S start v w → LogInvariants S start w
    step-kept v _ i (group_starts r left_out may) = start-kept S start stays sound v i r left_out may
    step-kept v _ i (shard_decides s ts may) = decide-kept S start stays stand sound v i s ts may
    step-kept v _ i (is_answered t may) = answer-kept v t may i

    pub step-grows : (v w : Log) → LogInvariants S start v → LogStep S start v w → LogGrows S start v w
    step-grows v _ i (group_starts r left_out may) = start-grows S start stays sound v i r left_out may
    step-grows v _ i (shard_decides s ts may) = decide-grows S start stays stand sound v i s ts may
    step-grows v _ i (is_answered t may) = answer-grows v t

    pub lead-kept : (v w : Log) → LogInvariants S start v → LogSteps S start v w → LogInvariants S start w
    lead-kept v _ i no_steps = i
    lead-kept v _ i (one_step_more {some = x} {later = w} l x1) = step-kept x w (lead-kept v x i l) x1

    pub lead-grows : (v w : Log) → LogInvariants S start v → LogSteps S start v w → LogGrows S start v w
    lead-grows v _ i no_steps = grows_itself v
    lead-grows v _ i (one_step_more {some = x} {later = w} l x1) = grows_more v x w (lead-grows v x i l) (step-grows x w (lead-kept v x i l) x1)

    pub kept : (w : Log) → IsReachedLog S start w → LogInvariants S start w
    kept w h = lead-kept first_log w first-kept h
