-- A server whose lists change, once what they newly decide has run
use Rattle.std.proofs.Common.{◌≡◌, ℕ, true, List, ◌++◌, Some, sym, ap, subst, ◌∙◌, ◌⊎◌, inl, inr}
use Rattle.std.proofs.lemmas.Bool.{false≢true, false_from_ne_true}
use Rattle.roc_sequence.specs.Lists.{Has}
use Rattle.roc_sequence.specs.Places.{IsListed, IsListedBefore}
use Rattle.roc_sequence.proofs.Appended.{listed_front, listed_behind, listed_either}
use Rattle.roc_base.specs.declared.id.TxnId.{TxnId}
use Rattle.roc_base.specs.TxnId.{is_txn}
use Rattle.roc_rows.specs.Store.{read}
use Rattle.roc_depgraph.specs.Deps.{IsAncestor, IsDecided}
use Rattle.roc_component.specs.Components.{Mates}
use Rattle.roc_plan.specs.Groups.{Plan}
use Rattle.roc_whole.specs.Serial as whole
use Rattle.roc_law_orders.specs.Runs.{Stage}
use Rattle.roc_law_log.specs.Scheme.{Scheme}
use Rattle.roc_law_log.specs.Log.{Log, PrecedesTxn}
use Rattle.roc_law_log.specs.Settled.{IsSettled}
use Rattle.roc_law_log.specs.Steps.{IsReachedLog}
use Rattle.roc_law_log.specs.Invariants.{LogInvariants, LogGrows}
use Rattle.roc_step.specs.State.{is_here, ServerState, Lists, unrun}
use Rattle.roc_step.specs.Below.{is_ended}
use Rattle.roc_law_protocol.specs.PlanAssumptions.{IsSchemeOf}
use Rattle.roc_law_protocol.specs.Beginnings.{Beginning}
use Rattle.roc_law_protocol.specs.Inner.Given.{LogLaws}
use Rattle.roc_law_protocol.proofs.Means.{run_of, entry_run, AllMean, IsForgotten, ServerMeans}
use Rattle.roc_law_protocol.proofs.KeptGroups.{SameGroups, take_keeps, take_same, same_here}
use Rattle.roc_law_protocol.proofs.Gone.{IsGone, gone_taught}
use Rattle.roc_law_protocol.proofs.Followed.{AreFollowedOf}
use Rattle.roc_law_protocol.proofs.Flattened.{flat}
use Rattle.roc_law_protocol.proofs.Grows.{begun_grows, place_grows, entry_grows, all_grow, past_grows, decided_grows, settled_grows, links_grow}
use Rattle.roc_law_protocol.proofs.Deciding.{IsChange}
use Rattle.roc_law_protocol.proofs.Deciding as deciding
use Rattle.roc_law_protocol.proofs.TakenNow.{still, kept_decided, kept_all, kept_one, kept_mates, kept_whole, kept_order, follows_now}

module _ (plan : Plan) (asked : TxnId → whole.Call) (S : Scheme) (start : Beginning) (is : IsSchemeOf plan asked S) (laws : LogLaws S start.store) (c : Log) (reached : IsReachedLog S start.store c) (n : ℕ) (s : ServerState) (o : ServerMeans plan asked S start c n s) (lists : Lists) (comps : List (List TxnId)) (change : IsChange plan asked S start c s lists comps) where
  abbrev ts : List TxnId
  ts = deciding.ts plan asked S start is laws c reached n s o lists comps change

  abbrev d : Log
  d = deciding.d plan asked S start is laws c reached n s o lists comps change

  abbrev after : ServerState
  after = deciding.after plan asked S start is laws c reached n s o lists comps change

  i : LogInvariants S start.store c
  i = deciding.i plan asked S start is laws c reached n s o lists comps change

  j : LogInvariants S start.store d
  j = deciding.j plan asked S start is laws c reached n s o lists comps change

  g : LogGrows S start.store c d
  g = deciding.g plan asked S start is laws c reached n s o lists comps change

  decided_is : d.decided n ≡ c.decided n ++ ts
  decided_is = deciding.decided_is plan asked S start is laws c reached n s o lists comps change

  -- the groups are the same, but for what they gave
  same : SameGroups s.started after.started
  same = take_same plan (flat comps) (record s { lists = lists })

  lists_are : after.lists ≡ lists
  lists_are = (take_keeps plan (flat comps) (record s { lists = lists })).0

  marks_are : after.below ≡ s.below
  marks_are = (take_keeps plan (flat comps) (record s { lists = lists })).2

  was_here : (t : TxnId) → is_here t after.started ≡ true → is_here t s.started ≡ true
  was_here t h = same_here s.started after.started same t h

  gone_then : (t : TxnId) → IsGone s t → IsGone after t
  gone_then t gone = gone_taught plan s lists (flat comps) t gone

  was_gone : (t : TxnId) → IsGone after t → IsGone s t
  was_gone t gone =
      record {
        nowhere = false_from_ne_true (is_here t s.started) (λ h. false≢true (sym gone.nowhere ∙ same.here t h));
        ended = subst (λ below. is_ended below t ≡ true) marks_are gone.ended;
      }

  decided_after : (t : TxnId) → IsListed is_txn (d.decided n) t → IsDecided lists.links t ⊎ IsForgotten plan asked S start d after t
  decided_after t h = elim (listed_either is_txn (c.decided n) ts t (subst (λ l. IsListed is_txn l t) decided_is h)) [
    | inl k ↦ elim (o.decided t k) [
      | inl was ↦ inl (still plan asked S start is laws c reached n s o lists comps change t was)
      | inr f ↦ inr (record { gone = gone_then t f.gone; settled = settled_grows plan asked S start is c d i j g t f.settled })
    ]
    | inr k ↦ (let new = deciding.of_ts plan asked S start is laws c reached n s o lists comps change t k.1 in inl (deciding.decided_of plan asked S start is laws c reached n s o lists comps change t new.1))
  ]

  back_after : (t : TxnId) → IsDecided lists.links t → IsListed is_txn (d.decided n) t
  back_after t h =
      subst (λ l. IsListed is_txn l t) (sym decided_is)
      (elim (deciding.new_or plan asked S start is laws c reached n s o lists comps change t h) [ inl k ↦ listed_front is_txn (c.decided n) ts t k | inr k ↦ listed_behind is_txn (c.decided n) ts t k ])

  -- the shard has decided what it takes now
  pub taken_decided : (t : TxnId) → IsListed is_txn (flat comps) t → IsListed is_txn (d.decided n) t
  taken_decided t h = back_after t (deciding.decided_of plan asked S start is laws c reached n s o lists comps change t h)

  -- a fact of the lists, said of the state
  said : (P : Lists → Type 0) → P lists → P after.lists
  said P h = subst P (sym lists_are) h

  in_taken : (k : List TxnId) → Has k after.lists.taken → Has k (s.lists.taken ++ comps)
  in_taken k h = subst (Has k) (ap (λ (l : Lists). l.taken) lists_are ∙ change.taken) h

  pub server_after : ServerMeans plan asked S start d n after
  server_after =
      record {
        number = ap (λ s. s.0) (take_keeps plan (flat comps) (record s { lists = lists })).1 ∙ o.number;
        groups = record {
          entries = λ e h. entry_grows plan asked S start is c d i j g n (unrun e) ((deciding.at_end plan asked S start is laws c reached n s o lists comps change).groups.entries e h);
          finds = λ r b p. elim (o.groups.finds r b (sym (place_grows plan asked S start is c d i j g r b) ∙ p)) [
            | inl f ↦ (let x = same.found r.txn r.group f.0 f.1 in inl (x.0, x.1))
            | inr gone ↦ inr (gone_then r.txn gone)
          ];
        };
        part = (let part = (deciding.at_end plan asked S start is laws c reached n s o lists comps change).part in
            let Y_is = deciding.Y_is plan asked S start is laws c reached n s o lists comps change in
            record {
              cells = λ x e. part.cells x e ∙ ap (λ (Z : Stage). read Z.store x) (sym Y_is);
              elsewhere = part.elsewhere;
              later = λ e h ran imm. part.later e h (deciding.ran_cases plan asked S start is laws c reached n s o lists comps change (entry_run e) ran) imm ∙ ap (λ (Z : Stage). Some (Z.yielded (entry_run e)).outs) (sym Y_is);
              at_once = part.at_once;
            });
        known = said (λ l. AllMean plan asked S start d l.known) (all_grow plan asked S start is c d i j g lists.known change.known);
        links = said (λ l. AreFollowedOf (IsSettled S start.store d) l.known l.links) (links_grow plan asked S start is c d i j g lists.known lists.links change.links);
        decided = λ t h. said (λ l. IsDecided l.links t ⊎ IsForgotten plan asked S start d after t) (decided_after t h);
        back = λ t h. back_after t (subst (λ (l : Lists). IsDecided l.links t) lists_are h);
        forgot = λ t h gone.
            (let on = sym (place_grows plan asked S start is c d i j g (run_of t h.group) h.began) ∙ h.on in
            let k = o.forgot t (record { group = h.group; began = h.began; on = on }) (was_gone t gone) in
            (decided_grows plan asked S start is c d i j g n t k.0, settled_grows plan asked S start is c d i j g t k.1));
        taken = record {
          decided = λ k t h x. said (λ l. IsDecided l.links t) (kept_decided plan asked S start is laws c reached n s o lists comps change k t (in_taken k h) x);
          all = λ t h.
              (let q = kept_all plan asked S start is laws c reached n s o lists comps change t (subst (λ (l : Lists). IsDecided l.links t) lists_are h) in
              (q.0, subst (Has q.0) (sym (ap (λ (l : Lists). l.taken) lists_are ∙ change.taken)) q.1, q.2));
          one = λ k e t h l. kept_one plan asked S start is laws c reached n s o lists comps change k e t (in_taken k h) (in_taken e l);
          mates = λ k t u h. kept_mates plan asked S start is laws c reached n s o lists comps change k t u (in_taken k h);
          whole = λ k t u h. kept_whole plan asked S start is laws c reached n s o lists comps change k t u (in_taken k h);
          order = λ t u x y l.
              subst (λ l. IsListedBefore is_txn l t u) (sym decided_is)
              (kept_order plan asked S start is laws c reached n s o lists comps change t u (was_here t x) (was_here u y) (subst (λ k. IsListedBefore is_txn (flat k) t u) (ap (λ (l : Lists). l.taken) lists_are ∙ change.taken) l));
        };
        follows = λ u t x. said (λ l. IsDecided l.links t → IsAncestor l.links u t → ¬ Mates (PrecedesTxn S start.store d.past) t u → IsListedBefore is_txn (d.decided n) u t)
            (λ h p m. subst (λ l. IsListedBefore is_txn l u t) (sym decided_is) (follows_now plan asked S start is laws c reached n s o lists comps change u t (was_here t x) h p m));
        fetched = λ a h. begun_grows plan asked S start is c d i j g a.id a.at.0 (change.asked_begun a (subst (λ (l : Lists). Has a l.waiting.asked) lists_are h));
        ended = λ t h. past_grows plan asked S start is c d i j g t (o.ended t (subst (λ below. is_ended below t ≡ true) marks_are h));
      }
