-- What a coordinator holds of a transaction, as it takes what comes
use Rattle.std.proofs.Common.{◌≡◌, ℕ, ℤ, ◌==◌, Bool, true, false, cond, ◌&&◌, List, [], ◌∷◌, ◌++◌, Option, Some, None, map, refl, sym, ap, subst, ◌∙◌, ◌⊎◌, inl, inr, is_some, append-nil}
use Rattle.std.proofs.lemmas.Bool.{eq-eqb, false≢true, and_parts, and_from, eqb-true, cond-false, false_from_ne_true}
use Rattle.std.specs.Prelude.{filter, is_none}
use Rattle.std.specs.List.{range_with_len, list_any, list_all}
use Rattle.roc_sequence.specs.Lists.{Has}
use Rattle.roc_sequence.proofs.Holds.{any_has, has_any, every_has, has_every}
use Rattle.roc_sequence.proofs.Found.{none_found}
use Rattle.roc_sequence.proofs.Members.{has_append, has_one, from_has_map, from_has_filter, has_left}
use Rattle.roc_base.specs.declared.id.TxnId.{TxnId}
use Rattle.roc_base.specs.declared.node.Shard.{Shard}
use Rattle.roc_plan.specs.declared.group.Input.{Input}
use Rattle.roc_plan.specs.Groups.{Plan, inputs_of}
use Rattle.roc_whole.specs.Serial as whole
use Rattle.roc_law_log.specs.Scheme.{Scheme}
use Rattle.roc_law_log.specs.Log.{Log}
use Rattle.roc_law_log.specs.Invariants.{LogInvariants}
use Rattle.roc_coord.specs.declared.transaction.Transaction.{Transaction}
use Rattle.roc_coord.specs.declared.transaction.SentStart.{SentStart}
use Rattle.roc_coord.specs.declared.transaction.TakenStart.{TakenStart}
use Rattle.roc_coord.specs.declared.transaction.TakenCommit.{TakenCommit}
use Rattle.roc_coord.specs.State.{find_start, find_startok, was_asked}
use Rattle.roc_coord.specs.Starts.{group_numbers, is_ready, can_start, ready_groups, shard_for, sent_start, with_starts, all_started, shards_of, shards_below}
use Rattle.roc_coord.specs.Step.{with_commits, with_startok, with_commitok}
use Rattle.roc_coord.specs.Submit.{unstarted}
use Rattle.roc_law_protocol.specs.Beginnings.{Beginning}
use Rattle.roc_law_protocol.specs.PlanAssumptions.{IsSchemeOf}
use Rattle.roc_law_protocol.proofs.Means.{HasBegun, run_of, place, ToldMeans, StartMeans, DoneMeans, TxnMeans}
use Rattle.roc_law_protocol.proofs.Coordinators.{told_all, IsTold, number_below, told_of, ready_group}
use Rattle.roc_law_protocol.proofs.Held.{more_found}

abbrev pub numbered : ℕ → Shard
numbered n = record { 0 = n }

pub filter_none : {A : Type 0} (p : A → Bool) (xs : List A) → ((x : A) → Has x xs → p x ≡ false) → filter p xs ≡ []
filter_none p [] h = refl
filter_none p (x ∷ xs) h = cond-false (p x) (x ∷ filter p xs) (filter p xs) (h x (inl refl)) ∙ filter_none p xs (λ y k. h y (inr k))

module _ (plan : Plan) (asked : TxnId → whole.Call) (S : Scheme) (start : Beginning) (is : IsSchemeOf plan asked S) (c : Log) (i : LogInvariants S start.store c) where
  pub told : (x : Transaction) → TxnMeans plan asked S start c x → IsTold plan asked S start is c i x
  told x m = record { proc = m.proc; args = m.args; startoks = m.startoks }

  pub first_means : (id : TxnId) (proc : ℕ) (args : List ℤ) → proc ≡ (asked id).procedure → args ≡ (asked id).arguments → TxnMeans plan asked S start c (unstarted id proc args)
  first_means id proc args p a =
      record {
        proc = p;
        args = a;
        startoks = λ ok h. absurd h;
        starts = λ g s h. absurd (false≢true h);
        ready = λ g s h. absurd (false≢true h);
        told = λ ok h. absurd h;
        asked_whole = λ s h. absurd h;
        commitoks = λ s outs h. absurd h;
      }

  module _ (x : Transaction) (m : TxnMeans plan asked S start c x) where
    abbrev t : TxnId
    t = x.id

    -- a group that was asked to start is found among the starts
    found_start : (g : ℕ) (s : Shard) → was_asked x g s ≡ true → is_none (find_start g x.starts) ≡ false
    found_start g s h =
        let a = any_has (λ (z : SentStart). z.group == g && z.shard.0 == s.0) x.starts h in
        let p = and_parts (a.0.group == g) (a.0.shard.0 == s.0) a.2 in
        go (find_start g x.starts) refl a.0 a.1 p.0
      where
        go : (o : Option SentStart) → find_start g x.starts ≡ o → (z : SentStart) → Has z x.starts → z.group == g ≡ true → is_none o ≡ false
        go None e z h k = absurd (false≢true (sym (none_found (λ (z : SentStart). z.group == g) x.starts e z h) ∙ k))
        go (Some y) e z h k = refl

    -- nothing is left to be started, once all groups have
    none_ready : all_started plan x ≡ true → ready_groups plan x ≡ []
    none_ready all =
        filter_none (can_start plan x) (group_numbers plan x.proc)
        (λ g h.
        let o = told_of plan asked S start is c i x (told x m) g (every_has (λ g. is_some (find_startok g x.startoks)) (group_numbers plan x.proc) all g h) in
        let f = found_start g (record { 0 = place plan asked S start c (run_of t o.0.group) }) (subst (λ h. was_asked x h (record { 0 = place plan asked S start c (run_of t o.0.group) }) ≡ true) o.3 (m.told o.0 o.1)) in
        false_from_ne_true (can_start plan x g) (λ k. false≢true (sym f ∙ (and_parts (is_ready plan x g) (is_none (find_start g x.starts)) k).1)))

    abbrev new_starts : List SentStart
    new_starts = map (sent_start plan x) (ready_groups plan x)

    abbrev test : ℕ → Shard → SentStart → Bool
    test g s z = z.group == g && z.shard.0 == s.0

    asked_cases : (g : ℕ) (s : Shard) → was_asked (with_starts plan x) g s ≡ true → (was_asked x g s ≡ true) ⊎ (Has g (ready_groups plan x) × ((shard_for plan x g).0 ≡ s.0))
    asked_cases g s h =
        let a = any_has (test g s) (x.starts ++ new_starts) h in
        elim (has_append a.0 x.starts new_starts a.1) [
          | inl k ↦ inl (has_any (test g s) x.starts a.0 k a.2)
          | inr k ↦
              (let b = from_has_map (sent_start plan x) a.0 (ready_groups plan x) k in
              let p = and_parts (a.0.group == g) (a.0.shard.0 == s.0) a.2 in
              let e : b.0 ≡ g = ap (λ (z : SentStart). z.group) (sym b.2) ∙ eqb-true a.0.group g p.0 in
              inr (subst (λ g. Has g (ready_groups plan x)) e b.1, ap (λ g. (shard_for plan x g).0) (sym e) ∙ (ap (λ (z : SentStart). z.shard.0) (sym b.2) ∙ eqb-true a.0.shard.0 s.0 p.1)))
        ]

    pub asked_still : (g : ℕ) (s : Shard) → was_asked x g s ≡ true → was_asked (with_starts plan x) g s ≡ true
    asked_still g s h = let a = any_has (test g s) x.starts h in has_any (test g s) (x.starts ++ new_starts) a.0 (has_left a.0 x.starts new_starts a.1) a.2

    ready_of : (g : ℕ) → Has g (ready_groups plan x) → (Has g (group_numbers plan x.proc)) × (is_ready plan x g ≡ true)
    ready_of g h = let f = from_has_filter (can_start plan x) g (group_numbers plan x.proc) h in (f.0, (and_parts (is_ready plan x g) (is_none (find_start g x.starts)) f.1).0)

    pub starts_means : TxnMeans plan asked S start c (with_starts plan x)
    starts_means =
        record {
          proc = m.proc;
          args = m.args;
          startoks = m.startoks;
          starts = λ g s h. elim (asked_cases g s h) [
            | inl k ↦ m.starts g s k
            | inr k ↦
                (let r = ready_of g k.0 in
                subst (StartMeans plan asked S start c (run_of t g)) k.1 (ready_group plan asked S start is c i x (told x m) g (number_below plan asked S start is c i x (told x m) g r.0) r.1).means)
          ];
          ready = λ g s h. elim (asked_cases g s h) [ inl k ↦ m.ready g s k | inr k ↦ (ready_of g k.0).1 ];
          told = λ ok h. asked_still ok.group (record { 0 = place plan asked S start c (run_of t ok.group) }) (m.told ok h);
          asked_whole = λ s h.
              (let w = m.asked_whole s h in
              (w.0, w.1 ∙ sym (ap (shards_below 64) (ap (λ l. x.starts ++ map (sent_start plan x) l) (none_ready w.0) ∙ append-nil x.starts))));
          commitoks = m.commitoks;
        }

    -- a shard of its groups has one
    pub shards_begun : all_started plan x ≡ true → (s : Shard) → Has s (shards_of x) → HasBegun plan asked S start c t s.0
    unfolding shards_below
    shards_begun all s h =
        let f = (from_has_filter (λ (shard : Shard). list_any (λ (z : SentStart). z.shard.0 == shard.0) x.starts) s (map numbered (range_with_len 0 64)) h).1 in
        let z = any_has (λ (z : SentStart). z.shard.0 == s.0) x.starts f in
        let was : was_asked x z.0.group s ≡ true = has_any (λ (y : SentStart). y.group == z.0.group && y.shard.0 == s.0) x.starts z.0 z.1 (and_from (z.0.group == z.0.group) (z.0.shard.0 == s.0) (eq-eqb z.0.group z.0.group refl) z.2) in
        let m2 = m.starts z.0.group s was in
        let o = told_all plan asked S start is c i x (told x m) all z.0.group ((is.groups t z.0.group).0 m2.listed) in
        record { group = z.0.group; began = o.4.began; on = m2.on }

    pub commits_means : TxnMeans plan asked S start c (with_commits plan x)
    commits_means = go (all_started plan x) refl
      where
        go : (b : Bool) → all_started plan x ≡ b → TxnMeans plan asked S start c (cond b (record x { asked = shards_of x }) x)
        go true e = record { proc = m.proc; args = m.args; startoks = m.startoks; starts = m.starts; ready = m.ready; told = m.told; asked_whole = λ s h. (e, refl); commitoks = m.commitoks }
        go false e = m

    pub commitok_means : (ok : TakenCommit) → DoneMeans plan asked S start c x.id ok.shard.0 ok.outs → TxnMeans plan asked S start c (with_commitok x ok)
    commitok_means ok d =
        record {
          proc = m.proc;
          args = m.args;
          startoks = m.startoks;
          starts = m.starts;
          ready = m.ready;
          told = m.told;
          asked_whole = m.asked_whole;
          commitoks = λ s outs h. elim (has_append (record { shard = s; outs = outs }) x.commitoks (ok ∷ []) h) [
            | inl k ↦ m.commitoks s outs k
            | inr k ↦ (let e = has_one (record { shard = s; outs = outs }) ok k in subst (λ (o : TakenCommit). DoneMeans plan asked S start c x.id o.shard.0 o.outs) (sym e) d)
          ];
        }

    pub startok_means : (ok : TakenStart) (shard : Shard) → was_asked x ok.group shard ≡ true → shard.0 ≡ place plan asked S start c (run_of t ok.group) → ToldMeans plan asked S start c (run_of t ok.group) ok.bound ok.outs ok.edges ok.facts
        → TxnMeans plan asked S start c (with_startok x ok)
    startok_means ok shard was on d =
        record {
          proc = m.proc;
          args = m.args;
          startoks = λ o h. elim (has_append o x.startoks (ok ∷ []) h) [
            | inl k ↦ m.startoks o k
            | inr k ↦ subst (λ (o : TakenStart). ToldMeans plan asked S start c (run_of t o.group) o.bound o.outs o.edges o.facts) (sym (has_one o ok k)) d
          ];
          starts = m.starts;
          ready = λ g s h. still (inputs_of plan x.proc g) (m.ready g s h);
          told = λ o h. elim (has_append o x.startoks (ok ∷ []) h) [
            | inl k ↦ m.told o k
            | inr k ↦ subst (λ (o : TakenStart). was_asked x o.group (record { 0 = place plan asked S start c (run_of t o.group) }) ≡ true) (sym (has_one o ok k)) (subst (λ n. was_asked x ok.group (record { 0 = n }) ≡ true) on was)
          ];
          asked_whole = λ s h. (let w = m.asked_whole s h in (has_every (λ g. is_some (find_startok g (x.startoks ++ ok ∷ []))) (group_numbers plan x.proc) (λ g k. more_found (λ (o : TakenStart). o.group == g) x.startoks (ok ∷ []) (every_has (λ g. is_some (find_startok g x.startoks)) (group_numbers plan x.proc) w.0 g k)), w.1));
          commitoks = m.commitoks;
        }
      where
        still : (inputs : List Input) → list_all (λ a. is_some (find_startok a.group x.startoks)) inputs ≡ true → list_all (λ a. is_some (find_startok a.group (x.startoks ++ ok ∷ []))) inputs ≡ true
        still [] h = refl
        still (a ∷ inputs) h =
            let p = and_parts (is_some (find_startok a.group x.startoks)) (list_all (λ a. is_some (find_startok a.group x.startoks)) inputs) h in
            and_from (is_some (find_startok a.group (x.startoks ++ ok ∷ []))) (list_all (λ a. is_some (find_startok a.group (x.startoks ++ ok ∷ []))) inputs) (more_found (λ (o : TakenStart). o.group == a.group) x.startoks (ok ∷ []) p.0) (still inputs p.1)
