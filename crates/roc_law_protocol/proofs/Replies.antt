-- A reply is made of what the groups gave
use Rattle.std.proofs.Common.{◌≡◌, ℕ, ℤ, pos, zero, suc, ◌+◌, ◌<◌, ◌==◌, Bool, true, false, not, cond, ◌&&◌, List, [], ◌∷◌, ◌++◌, length, map, refl, sym, ap, subst, ◌∙◌, arith, ◌⊎◌, inl, inr, length-append}
use Rattle.std.proofs.lemmas.List.{length-map}
use Rattle.std.proofs.lemmas.Bool.{false≢true, and_parts, and_from, eq-eqb, eqb-true, not-true}
use Rattle.std.specs.Prelude.{filter, flat_map, zip, slice_index_or}
use Rattle.std.specs.List.{list_any, range_with_len}
use Rattle.roc_merge_groups.proofs.Elements.{has_range}
use Rattle.roc_sequence.specs.Lists.{Has}
use Rattle.roc_sequence.specs.Places.{IsListed}
use Rattle.roc_sequence.proofs.Holds.{any_has, has_any, every_has}
use Rattle.roc_sequence.proofs.Members.{has_append, from_has_filter, has_filter, has_left, has_right, has_map, has_flat_map, from_has_flat_map}
use Rattle.roc_base.specs.declared.id.TxnId.{TxnId}
use Rattle.roc_base.specs.TxnId.{is_txn}
use Rattle.roc_base.specs.declared.node.Shard.{Shard}
use Rattle.roc_plan.specs.Groups.{Plan, groups_of, outs_of, is_immediate_of}
use Rattle.roc_whole.specs.Serial as whole
use Rattle.roc_law_orders.specs.Behaviour.{TxnGroup, Yield}
use Rattle.roc_law_orders.specs.Runs.{inputs_at, first_stage, after_groups, groups_before}
use Rattle.roc_law_orders.proofs.Stages.{yielded_at}
use Rattle.roc_law_log.specs.Scheme.{Scheme}
use Rattle.roc_law_log.specs.Log.{Log, IsDecidedThroughout}
use Rattle.roc_law_log.specs.Invariants.{LogInvariants}
use Rattle.roc_coord.specs.declared.transaction.Transaction.{Transaction}
use Rattle.roc_coord.specs.declared.transaction.SentStart.{SentStart}
use Rattle.roc_coord.specs.declared.transaction.TakenStart.{TakenStart}
use Rattle.roc_coord.specs.declared.transaction.TakenCommit.{TakenCommit}
use Rattle.roc_coord.specs.State.{was_asked, has_commitok}
use Rattle.roc_coord.specs.Starts.{group_numbers, all_started, shards_of, shards_below}
use Rattle.roc_coord.specs.Commits.{waits_on, groups_on, places_on, all_committed, given_by_start, given_by_commit, placed_by_startoks, placed_by_commitoks, placed_outs, out_at, reply_length, reply_of}
use Rattle.roc_law_protocol.specs.Beginnings.{Beginning}
use Rattle.roc_law_protocol.specs.PlanAssumptions.{IsSchemeOf}
use Rattle.roc_law_protocol.proofs.Means.{run_of, place, Ran, stage, ToldMeans, DoneMeans, TxnMeans, waits_at, IsGiven, AnswerMeans}
use Rattle.roc_law_protocol.proofs.Grows.{filter_same}
use Rattle.roc_law_protocol.proofs.Coordinators.{number_below, below_number, numbers, told_all}
use Rattle.roc_law_protocol.proofs.Rounds.{numbered, told}

-- ---- pairs

has_pair : {A B : Type 0} (a : A) (as_ : List A) (bs : List B) → length bs ≡ length as_ → Has a as_ → (b : B) × Has (a, b) (zip as_ bs)
has_pair a [] bs e h = absurd h
has_pair a (x ∷ as_) [] e h = absurd (omega arith)
has_pair a (x ∷ as_) (b ∷ bs) e (inl k) = (b, inl (λ i. (k i, b)))
has_pair a (x ∷ as_) (b ∷ bs) e (inr k) = let r = has_pair a as_ bs (omega arith) k in (r.0, inr r.1)

zip-parts : {A B : Type 0} (as_ cs : List A) (bs ds : List B) → length bs ≡ length as_ → zip (as_ ++ cs) (bs ++ ds) ≡ zip as_ bs ++ zip cs ds
zip-parts [] cs [] ds e = refl
zip-parts [] cs (b ∷ bs) ds e = absurd (omega arith)
zip-parts (a ∷ as_) cs [] ds e = absurd (omega arith)
zip-parts (a ∷ as_) cs (b ∷ bs) ds e = ap (λ l. (a, b) ∷ l) (zip-parts as_ cs bs ds (omega arith))

module _ {A B G : Type 0} (f : G → List A) (h : G → List B) where
  pair_of_flat : (p : A × B) (gs : List G) → ((g : G) → Has g gs → length (h g) ≡ length (f g)) → Has p (zip (flat_map f gs) (flat_map h gs)) → (g : G) × Has g gs × Has p (zip (f g) (h g))
  pair_of_flat p [] e k = absurd k
  pair_of_flat p (g ∷ gs) e k =
      elim (has_append p (zip (f g) (h g)) (zip (flat_map f gs) (flat_map h gs)) (subst (Has p) (zip-parts (f g) (flat_map f gs) (h g) (flat_map h gs) (e g (inl refl))) k)) [
        | inl j ↦ (g, inl refl, j)
        | inr j ↦ (let r = pair_of_flat p gs (λ g k. e g (inr k)) j in (r.0, inr r.1, r.2))
      ]

  pub lengths_of_flat : (gs : List G) → ((g : G) → Has g gs → length (h g) ≡ length (f g)) → length (flat_map h gs) ≡ length (flat_map f gs)
  lengths_of_flat [] e = refl
  lengths_of_flat (g ∷ gs) e = let a = e g (inl refl) in let b = lengths_of_flat gs (λ g k. e g (inr k)) in omega (arith, length-append (h g) (flat_map h gs), length-append (f g) (flat_map f gs))

-- what stands at a place is one of the values that were placed there
out_at-has : (at : ℕ) (ps : List (ℕ × ℤ)) (v : ℤ) → Has (at, v) ps → Has (at, out_at at ps) ps
out_at-has at [] v h = absurd h
out_at-has at (p ∷ ps) v h = go (p.0 == at) refl h (out_at-has at ps v)
  where
    go : (b : Bool) → p.0 == at ≡ b → ((at, v) ≡ p) ⊎ Has (at, v) ps → (Has (at, v) ps → Has (at, out_at at ps) ps) → ((at, cond b p.1 (out_at at ps)) ≡ p) ⊎ Has (at, cond b p.1 (out_at at ps)) ps
    go true e h ih = inl (let f = eqb-true p.0 at e in λ i. (sym f i, p.1))
    go false e (inl k) ih = absurd (false≢true (sym e ∙ eq-eqb p.0 at (ap (λ (q : ℕ × ℤ). q.0) (sym k))))
    go false e (inr k) ih = inr (ih k)

index_map : (f : ℕ → ℤ) (a n at : ℕ) → at < n → slice_index_or (map f (range_with_len a n)) at (pos 0) ≡ f (a + at)
index_map f a zero at l = absurd (omega arith)
index_map f a (suc n) zero l = let e : a ≡ a + 0 = omega arith in ap f e
index_map f a (suc n) (suc at) l = let e : (a + 1) + at ≡ a + suc at = omega arith in index_map f (a + 1) n at (omega arith) ∙ ap f e

length-range : (a n : ℕ) → length (range_with_len a n) ≡ n
length-range a zero = refl
length-range a (suc n) = let e = length-range (a + 1) n in omega arith

pub shard_listed : (starts : List SentStart) (s : Shard) (z : SentStart) → Has z starts → z.shard.0 == s.0 ≡ true → s.0 < 64 → Has s (shards_below 64 starts)
unfolding shards_below
shard_listed starts s z h e l =
    has_filter (λ (shard : Shard). list_any (λ (start : SentStart). start.shard.0 == shard.0) starts) s (map numbered (range_with_len 0 64))
    (has_map numbered s.0 (range_with_len 0 64) (has_range 0 64 s.0 (omega arith) (omega arith)))
    (has_any (λ (start : SentStart). start.shard.0 == s.0) starts z h e)

module _ (plan : Plan) (asked : TxnId → whole.Call) (S : Scheme) (start : Beginning) (is : IsSchemeOf plan asked S) (c : Log) (i : LogInvariants S start.store c) where
  -- what ran gave as many values as it has places
  pub count_given : (r : TxnGroup) → Ran plan asked S start c r → length ((stage plan asked S start c).yielded r).outs ≡ length (outs_of plan (asked r.txn).procedure r.group)
  count_given r h =
      ap (λ (y : Yield). length y.outs) (yielded_at S.behaviour c.past.ran (first_stage start.store) r i.ran_once h)
      ∙ is.outs r (inputs_at S.behaviour (after_groups S.behaviour (first_stage start.store) (groups_before r c.past.ran)) r) (after_groups S.behaviour (first_stage start.store) (groups_before r c.past.ran)).store

  pub few_place : (r : TxnGroup) → place plan asked S start c r < 64
  few_place r = let e = is.group_shard r (inputs_at S.behaviour (stage plan asked S start c) r) in subst (λ n. n < 64) (sym e) (is.few_shards _)

  module _ (x : Transaction) (m : TxnMeans plan asked S start c x) where
    abbrev t : TxnId
    t = x.id

    abbrev outs : ℕ → List ℕ
    outs g = outs_of plan (asked t).procedure g

    abbrev gave : ℕ → List ℤ
    gave g = ((stage plan asked S start c).yielded (run_of t g)).outs

    -- the groups that wait on a shard that was asked to commit
    module _ (all : all_started plan x ≡ true) where
      asked_is : (g : ℕ) → Has g (group_numbers plan x.proc) → (s : Shard) → was_asked x g s ≡ (place plan asked S start c (run_of t g) == s.0)
      asked_is g h s = both (was_asked x g s) (place plan asked S start c (run_of t g) == s.0)
          (λ k. eq-eqb (place plan asked S start c (run_of t g)) s.0 (m.starts g s k).on)
          (λ k. let o = told_all plan asked S start is c i x (told plan asked S start is c i x m) all g (number_below plan asked S start is c i x (told plan asked S start is c i x m) g h) in
          let was = subst (λ h. was_asked x h (record { 0 = place plan asked S start c (run_of t h) }) ≡ true) o.3 (m.told o.0 o.1) in
          subst (λ n. was_asked x g (record { 0 = n }) ≡ true) (eqb-true (place plan asked S start c (run_of t g)) s.0 k) was)
        where
          both : (a b : Bool) → (a ≡ true → b ≡ true) → (b ≡ true → a ≡ true) → a ≡ b
          both true b f g = sym (f refl)
          both false true f g = g refl
          both false false f g = refl

      pub groups_on-are : (s : Shard) → groups_on plan x s ≡ filter (waits_at plan asked S start c s.0 t) (range_with_len 0 (length (groups_of plan (asked t).procedure)))
      groups_on-are s =
          filter_same (waits_on plan x s) (waits_at plan asked S start c s.0 t) (group_numbers plan x.proc)
          (λ g h. (λ k. not (imm g k) && asked_is g h s k))
          ∙ ap (filter (waits_at plan asked S start c s.0 t)) (numbers plan asked S start is c i x (told plan asked S start is c i x m))
        where
          imm : (g : ℕ) → is_immediate_of plan x.proc g ≡ S.is_immediate (run_of t g)
          imm g = ap (λ p. is_immediate_of plan p g) m.proc ∙ sym (is.immediate (run_of t g))

      pub places_are : (s : Shard) → places_on plan x s ≡ flat_map outs (filter (waits_at plan asked S start c s.0 t) (range_with_len 0 (length (groups_of plan (asked t).procedure))))
      places_are s = ap (λ p. flat_map (outs_of plan p) (groups_on plan x s)) m.proc ∙ ap (flat_map outs) (groups_on-are s)

      -- a group that waits where its transaction is decided has run
      ran_there : (g : ℕ) → g < length (groups_of plan (asked t).procedure) → (s : ℕ) → IsListed is_txn (c.decided s) t → waits_at plan asked S start c s t g ≡ true → Ran plan asked S start c (run_of t g)
      ran_there g l s d w =
          let p = and_parts (not (S.is_immediate (run_of t g))) (place plan asked S start c (run_of t g) == s) w in
          let began = (told_all plan asked S start is c i x (told plan asked S start is c i x m) all g l).4.began in
          i.later_ran (run_of t g) began (not-true (S.is_immediate (run_of t g)) p.0) (subst (λ s. IsListed is_txn (c.decided s) t) (sym (eqb-true (place plan asked S start c (run_of t g)) s p.1)) d)

      abbrev below : List ℕ
      below = range_with_len 0 (length (groups_of plan (asked t).procedure))

      is_below : (g : ℕ) → Has g below → g < length (groups_of plan (asked t).procedure)
      is_below g h = number_below plan asked S start is c i x (told plan asked S start is c i x m) g (subst (Has g) (sym (numbers plan asked S start is c i x (told plan asked S start is c i x m))) h)

      -- a shard's groups gave as many values as they have places
      pub counts_at : (s : ℕ) → IsListed is_txn (c.decided s) t → (g : ℕ) → Has g (filter (waits_at plan asked S start c s t) below) → length (gave g) ≡ length (outs g)
      counts_at s d g h = let f = from_has_filter (waits_at plan asked S start c s t) g below h in count_given (run_of t g) (ran_there g (is_below g f.0) s d f.1)

      -- ---- what was placed is what the groups gave

      given_by_pair : (at : ℕ) (v : ℤ) (g : ℕ) → Ran plan asked S start c (run_of t g) → Has (at, v) (zip (outs g) (gave g)) → IsGiven plan asked S start c t at v
      given_by_pair at v g h k = record { group = g; ran = h; gave = k }

      from_start : (at : ℕ) (v : ℤ) (ok : TakenStart) → Has ok x.startoks → Has (at, v) (given_by_start plan x ok) → IsGiven plan asked S start c t at v
      from_start at v ok h k = go (S.is_immediate (run_of t ok.group)) refl
        where
          d : ToldMeans plan asked S start c (run_of t ok.group) ok.bound ok.outs ok.edges ok.facts
          d = m.startoks ok h

          k2 : Has (at, v) (zip (outs ok.group) ok.outs)
          k2 = subst (λ p. Has (at, v) (zip (outs_of plan p ok.group) ok.outs)) m.proc k

          go : (b : Bool) → S.is_immediate (run_of t ok.group) ≡ b → IsGiven plan asked S start c t at v
          go true e = given_by_pair at v ok.group (i.now_ran (run_of t ok.group) d.began e) (subst (λ l. Has (at, v) (zip (outs ok.group) l)) (d.outs_now e) k2)
          go false e = absurd (no_pair (outs ok.group) (subst (λ l. Has (at, v) (zip (outs ok.group) l)) (d.outs_later e) k2))
            where
              no_pair : (ps : List ℕ) → ¬ Has (at, v) (zip ps [])
              no_pair [] h = h
              no_pair (p ∷ ps) h = h

      done_of : (ok : TakenCommit) → Has ok x.commitoks → DoneMeans plan asked S start c t ok.shard.0 ok.outs
      done_of ok h = m.commitoks ok.shard ok.outs h

      zip_of : (ok : TakenCommit) → Has ok x.commitoks → given_by_commit plan x ok ≡ zip (flat_map outs (filter (waits_at plan asked S start c ok.shard.0 t) below)) (flat_map gave (filter (waits_at plan asked S start c ok.shard.0 t) below))
      zip_of ok h = λ k. zip (places_are ok.shard k) ((done_of ok h).is k)

      from_commit : (at : ℕ) (v : ℤ) (ok : TakenCommit) → Has ok x.commitoks → Has (at, v) (given_by_commit plan x ok) → IsGiven plan asked S start c t at v
      from_commit at v ok h k =
          let d = (done_of ok h).decided in
          let gs = filter (waits_at plan asked S start c ok.shard.0 t) below in
          let q = pair_of_flat outs gave (at, v) gs (counts_at ok.shard.0 d) (subst (Has (at, v)) (zip_of ok h) k) in
          let f = from_has_filter (waits_at plan asked S start c ok.shard.0 t) q.0 below q.1 in
          given_by_pair at v q.0 (ran_there q.0 (is_below q.0 f.0) ok.shard.0 d f.1) q.2

      from_placed : (at : ℕ) (v : ℤ) → Has (at, v) (placed_outs plan x) → IsGiven plan asked S start c t at v
      from_placed at v h = elim (has_append (at, v) (placed_by_startoks plan x) (placed_by_commitoks plan x) h) [
        | inl k ↦ (let q = from_has_flat_map (given_by_start plan x) (at, v) x.startoks k in from_start at v q.0 q.1 q.2)
        | inr k ↦ (let q = from_has_flat_map (given_by_commit plan x) (at, v) x.commitoks k in from_commit at v q.0 q.1 q.2)
      ]

      -- ---- each place has a value

      module _ (asked_all : x.asked ≡ shards_of x) (done : all_committed x ≡ true) where
        -- the shard of each of its groups was asked to commit, and did
        committed_at : (g : ℕ) → g < length (groups_of plan (asked t).procedure) → (ok : TakenCommit) × Has ok x.commitoks × (ok.shard.0 ≡ place plan asked S start c (run_of t g))
        committed_at g l =
            let s : Shard = record { 0 = place plan asked S start c (run_of t g) } in
            let number = below_number plan asked S start is c i x (told plan asked S start is c i x m) g l in
            let was : was_asked x g s ≡ true = asked_is g number s ∙ eq-eqb (place plan asked S start c (run_of t g)) (place plan asked S start c (run_of t g)) refl in
            let z = any_has (λ (z : SentStart). z.group == g && z.shard.0 == s.0) x.starts was in
            let zp = and_parts (z.0.group == g) (z.0.shard.0 == s.0) z.2 in
            let in_shards : Has s x.asked = subst (Has s) (sym asked_all) (shard_listed x.starts s z.0 z.1 zp.1 (few_place (run_of t g))) in
            let committed = every_has (λ (s : Shard). has_commitok s x.commitoks) x.asked done s in_shards in
            let k = any_has (λ (ok : TakenCommit). ok.shard.0 == s.0) x.commitoks committed in
            (k.0, k.1, eqb-true k.0.shard.0 s.0 k.2)

        -- so it is decided on each of them
        pub decided_throughout : IsListed is_txn c.order t → IsDecidedThroughout S start.store c t
        decided_throughout w =
            record {
              in_order = w;
              everywhere = λ g l. (let k = committed_at g ((is.groups t g).0 l) in subst (λ s. IsListed is_txn (c.decided s) t) k.2 (done_of k.0 k.1).decided);
            }

        placed_at : (at g : ℕ) → g < length (groups_of plan (asked t).procedure) → Has at (outs g) → (v : ℤ) × Has (at, v) (placed_outs plan x)
        placed_at at g l h = go (S.is_immediate r) refl
          where
            r : TxnGroup
            r = run_of t g

            go : (b : Bool) → S.is_immediate (run_of t g) ≡ b → (v : ℤ) × Has (at, v) (placed_outs plan x)
            go true e =
                let o = told_all plan asked S start is c i x (told plan asked S start is c i x m) all g l in
                let n : length o.0.outs ≡ length (outs o.0.group) = subst (λ h. length o.0.outs ≡ length (outs h)) (sym o.3) (ap length (o.4.outs_now e) ∙ count_given (run_of t g) (i.now_ran (run_of t g) o.4.began e)) in
                let q = has_pair at (outs o.0.group) o.0.outs n (subst (λ h. Has at (outs h)) (sym o.3) h) in
                (q.0, has_left (at, q.0) (placed_by_startoks plan x) (placed_by_commitoks plan x) (has_flat_map (given_by_start plan x) (at, q.0) o.0 x.startoks o.1 (subst (λ p. Has (at, q.0) (zip (outs_of plan p o.0.group) o.0.outs)) (sym m.proc) q.1)))
            go false e =
                let number = below_number plan asked S start is c i x (told plan asked S start is c i x m) g l in
                let k = committed_at g l in
                let same = k.2 in
                let d = (done_of k.0 k.1).decided in
                let gs = filter (waits_at plan asked S start c k.0.shard.0 t) below in
                let waits : waits_at plan asked S start c k.0.shard.0 t g ≡ true = and_from (not (S.is_immediate (run_of t g))) (place plan asked S start c (run_of t g) == k.0.shard.0) (ap not e) (eq-eqb (place plan asked S start c (run_of t g)) k.0.shard.0 (sym same)) in
                let mine : Has g gs = has_filter (waits_at plan asked S start c k.0.shard.0 t) g below (subst (Has g) (numbers plan asked S start is c i x (told plan asked S start is c i x m)) number) waits in
                let q = has_pair at (flat_map outs gs) (flat_map gave gs) (lengths_of_flat outs gave gs (counts_at k.0.shard.0 d)) (has_flat_map outs at g gs mine h) in
                (q.0, has_right (at, q.0) (placed_by_startoks plan x) (placed_by_commitoks plan x) (has_flat_map (given_by_commit plan x) (at, q.0) k.0 x.commitoks k.1 (subst (Has (at, q.0)) (sym (zip_of k.0 k.1)) q.1)))

        pub answer_means : (w : IsListed is_txn c.order t) → AnswerMeans plan asked S start c t (reply_of plan x)
        answer_means w =
            record {
              throughout = decided_throughout w;
              count = length-map (range_with_len 0 (reply_length plan x)) (λ (at : ℕ). out_at at (placed_outs plan x)) ∙ (length-range 0 (reply_length plan x) ∙ total);
              given = λ at l. given at (subst (λ n. at < n) (length-map (range_with_len 0 (reply_length plan x)) (λ (at : ℕ). out_at at (placed_outs plan x)) ∙ length-range 0 (reply_length plan x)) l);
            }
          where
            total : reply_length plan x ≡ length (flat_map outs below)
            total = (λ k. length (flat_map (outs_of plan (m.proc k)) (group_numbers plan x.proc))) ∙ ap (λ l. length (flat_map outs l)) (numbers plan asked S start is c i x (told plan asked S start is c i x m))

            given : (at : ℕ) → at < reply_length plan x → IsGiven plan asked S start c t at (slice_index_or (reply_of plan x) at (pos 0))
            given at l =
                let g = is.places t at (subst (λ n. at < n) total l) in
                let v = placed_at at g.0 g.1 g.2 in
                subst (IsGiven plan asked S start c t at) (sym (index_map (λ at. out_at at (placed_outs plan x)) 0 (reply_length plan x) at l ∙ (let e : 0 + at ≡ at = omega arith in ap (λ at. out_at at (placed_outs plan x)) e)))
                (from_placed at (out_at at (placed_outs plan x)) (out_at-has at (placed_outs plan x) v.0 v.1))
