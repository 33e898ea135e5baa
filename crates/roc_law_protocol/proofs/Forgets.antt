-- A server forgets what is over
use Rattle.std.proofs.Common.{◌≡◌, ℕ, Bool, true, false, not, List, refl, sym, ap, ◌∙◌, ◌⊎◌, inl, inr}
use Rattle.std.proofs.lemmas.Bool.{false≢true, false_from_ne_true, not-true, not-false, not_from_false}
use Rattle.roc_sequence.specs.Lists.{Has}
use Rattle.roc_sequence.specs.Places.{IsListed}
use Rattle.roc_sequence.proofs.Holds.{every_has}
use Rattle.roc_sequence.proofs.Members.{has_filter, from_has_filter}
use Rattle.roc_base.specs.declared.id.TxnId.{TxnId}
use Rattle.roc_base.specs.TxnId.{is_txn}
use Rattle.roc_depgraph.specs.declared.known.KnownList.{KnownList}
use Rattle.roc_depgraph.specs.Deps.{Precedes, IsDecided}
use Rattle.roc_depgraph.proofs.Chains.{weaker_chain}
use Rattle.roc_step.specs.declared.waits.OpenFetch.{OpenFetch}
use Rattle.roc_step.proofs.ForgottenLinks.{precedes_left, decided_left, left_decided}
use Rattle.roc_plan.specs.Groups.{Plan}
use Rattle.roc_whole.specs.Serial as whole
use Rattle.roc_law_orders.specs.Behaviour.{TxnGroup}
use Rattle.roc_law_log.specs.Scheme.{Scheme}
use Rattle.roc_law_log.specs.Log.{Log}
use Rattle.roc_law_log.specs.Settled.{IsSettled}
use Rattle.roc_law_log.specs.Invariants.{LogInvariants}
use Rattle.roc_step.specs.declared.started.StartedGroup.{StartedGroup}
use Rattle.roc_step.specs.State.{is_here, ServerState}
use Rattle.roc_step.specs.Below.{is_ended}
use Rattle.roc_step.specs.Forgets.{is_over, forget}
use Rattle.roc_law_protocol.specs.PlanAssumptions.{IsSchemeOf}
use Rattle.roc_law_protocol.specs.Beginnings.{Beginning}
use Rattle.roc_law_protocol.proofs.Means.{IsOther, run_of, Began, IsPast, IsForgotten, ServerMeans}
use Rattle.roc_law_protocol.proofs.Gone.{IsGone}
use Rattle.roc_law_protocol.proofs.ForgottenHere.{forgotten, forgets, over_of, was_here, here_kept, gone_still, gone_now, found_or_gone}
use Rattle.roc_law_protocol.proofs.Followed.{followed_left}
use Rattle.roc_law_protocol.proofs.Flattened.{before_all}

module _ (plan : Plan) (asked : TxnId → whole.Call) (S : Scheme) (start : Beginning) (is : IsSchemeOf plan asked S) (c : Log) (i : LogInvariants S start.store c)
    (called : (r : TxnGroup) → Began plan asked S start c r → ¬ IsOther asked start r.txn) (n : ℕ) (s : ServerState) (o : ServerMeans plan asked S start c n s) where
  pub over_decided : (t : TxnId) → forgotten s t ≡ true → IsDecided s.lists.links t
  over_decided t h = let k = over_of s t h in o.taken.decided k.component t k.has k.member

  -- what a shard decided began in this run; so it is answered, if it is past
  answered : (t : TxnId) → IsListed is_txn (c.decided n) t → IsPast plan asked S start c t → IsListed is_txn c.answered t
  answered t h (inl k) = k
  answered t h (inr other) = absurd (called (run_of t 0) (i.whole t (i.in_order n t h) 0 ((is.groups t 0).1 (is.some t))) other)

  pub over_settled : (t : TxnId) → forgotten s t ≡ true → IsSettled S start.store c t
  over_settled t h m mate =
      let k = over_of s t h in
      elim (o.taken.whole k.component t m k.has k.member mate) [
        | inl x ↦ answered m (o.back m (o.taken.decided k.component m k.has x)) (o.ended m (every_has (is_ended s.below) k.component k.over m x))
        | inr z ↦ z m mate
      ]

  -- what is forgotten is so for good
  pub over_forgotten : (t : TxnId) → forgotten s t ≡ true → IsForgotten plan asked S start c (forget s) t
  over_forgotten t h = record { gone = gone_now s t h; settled = over_settled t h }

  -- ---- what is decided

  were : (t : TxnId) → IsDecided (forget s).lists.links t → IsDecided s.lists.links t × (forgotten s t ≡ false)
  were t h = left_decided (forgotten s) s.lists.links over_decided t h

  -- a component that is kept has nothing that is forgotten
  kept_apart : (k : List TxnId) (t : TxnId) → Has k s.lists.taken → not (is_over s.below k) ≡ true → Has t k → forgotten s t ≡ false
  kept_apart k t h e x = false_from_ne_true (forgotten s t) (λ f.
      let q = over_of s t f in
      let same = o.taken.one k q.component t h q.has x q.member in
      false≢true (sym (not-true (is_over s.below k) e) ∙ (ap (is_over s.below) same ∙ q.over)))

  in_kept : (k : List TxnId) → Has k (forget s).lists.taken → Has k s.lists.taken × (not (is_over s.below k) ≡ true)
  in_kept k h = from_has_filter (λ k. not (is_over s.below k)) k s.lists.taken h

  pub forget_means : ServerMeans plan asked S start c n (forget s)
  forget_means =
      record {
        number = o.number;
        groups = record {
          entries = λ e h. o.groups.entries e (from_has_filter (λ (e : StartedGroup). not (forgotten s e.id)) e s.started h).0;
          finds = λ r b p. elim (o.groups.finds r b p) [
            | inl f ↦ elim (found_or_gone s r.txn r.group f.0 f.1) [ inl k ↦ inl (f.0, k) | inr gone ↦ inr gone ]
            | inr gone ↦ inr (gone_still s r.txn gone)
          ];
        };
        part = record {
          cells = o.part.cells;
          elsewhere = o.part.elsewhere;
          later = λ e h. o.part.later e (from_has_filter (λ (e : StartedGroup). not (forgotten s e.id)) e s.started h).0;
          at_once = λ e h. o.part.at_once e (from_has_filter (λ (e : StartedGroup). not (forgotten s e.id)) e s.started h).0;
        };
        known = λ k h. o.known k (from_has_filter (λ (k : KnownList). not (forgotten s k.of)) k s.lists.known h).0;
        links = followed_left (IsSettled S start.store c) (forgotten s) over_settled (λ t. not (forgotten s t)) s.lists.known s.lists.links o.links;
        decided = λ t h. elim (o.decided t h) [
          | inl k ↦ decided_or t k (forgotten s t) refl
          | inr f ↦ inr (record { gone = gone_still s t f.gone; settled = f.settled })
        ];
        back = λ t h. o.back t (were t h).0;
        forgot = λ t h gone. begun_gone t gone (forgotten s t) refl (o.forgot t h);
        taken = record {
          decided = λ k t h x. (let q = in_kept k h in decided_left (forgotten s) s.lists.links t (o.taken.decided k t q.0 x) (kept_apart k t q.0 q.1 x));
          all = λ t h.
              (let w = were t h in
              let q = o.taken.all t w.0 in
              (q.0, has_filter (λ k. not (is_over s.below k)) q.0 s.lists.taken q.1 (not_from_false (is_over s.below q.0) (false_from_ne_true (is_over s.below q.0) (λ e. false≢true (sym w.1 ∙ forgets s q.0 t q.1 e q.2)))), q.2));
          one = λ k e t h l. o.taken.one k e t (in_kept k h).0 (in_kept e l).0;
          mates = λ k t u h. o.taken.mates k t u (in_kept k h).0;
          whole = λ k t u h. o.taken.whole k t u (in_kept k h).0;
          order = λ t u x y l.
              (let a = was_here s t x in
              let b = was_here s u y in
              o.taken.order t u a.0 b.0 (before_all (λ k. not (is_over s.below k)) s.lists.taken t u (λ k h e. (not_over t a.1 k h e, not_over u b.1 k h e)) l));
        };
        follows = λ u t x h p m. o.follows u t (was_here s t x).0 (were t h).0 (weaker_chain (Precedes (forget s).lists.links) (Precedes s.lists.links) (λ u t e. (precedes_left (forgotten s) s.lists.links u t e).0) u t p) m;
        fetched = λ a h. o.fetched a (from_has_filter (λ (a : OpenFetch). not (forgotten s a.id)) a s.lists.waiting.asked h).0;
        ended = o.ended;
      }
    where
      decided_or : (t : TxnId) → IsDecided s.lists.links t → (b : Bool) → forgotten s t ≡ b → IsDecided (forget s).lists.links t ⊎ IsForgotten plan asked S start c (forget s) t
      decided_or t h true f = inr (over_forgotten t f)
      decided_or t h false f = inl (decided_left (forgotten s) s.lists.links t h f)

      begun_gone : (t : TxnId) → IsGone (forget s) t → (b : Bool) → forgotten s t ≡ b → (IsGone s t → IsListed is_txn (c.decided n) t × IsSettled S start.store c t)
          → IsListed is_txn (c.decided n) t × IsSettled S start.store c t
      begun_gone t gone true f was = (o.back t (over_decided t f), over_settled t f)
      begun_gone t gone false f was = was (record { nowhere = false_from_ne_true (is_here t s.started) (λ h. false≢true (sym gone.nowhere ∙ here_kept s t f h)); ended = gone.ended })

      not_over : (t : TxnId) → forgotten s t ≡ false → (k : List TxnId) → Has k s.lists.taken → not (is_over s.below k) ≡ false → ¬ Has t k
      not_over t f k h e x = false≢true (sym f ∙ forgets s k t h (not-false (is_over s.below k) e) x)
