-- What a coordinator sends, from what it holds
use Rattle.std.proofs.Common.{◌≡◌, ◌≢◌, ℕ, pos, zero, suc, ◌+◌, ◌<◌, ◌≤◌, ◌==◌, Bool, true, false, not, cond, List, [], ◌∷◌, Option, Some, None, length, map, refl, sym, ap, subst, ◌∙◌, arith, ◌⊎◌, inl, inr, is_some}
use Rattle.std.proofs.lemmas.Bool.{false≢true, and_parts, or_cases, eqb-true, cases_lt, cases_eq}
use Rattle.std.specs.Prelude.{filter, flat_map, slice_index_or}
use Rattle.std.specs.List.{AllByRecursion, list_all, range_with_len}
use Rattle.roc_sequence.specs.Lists.{Has}
use Rattle.roc_sequence.specs.Places.{IsListed}
use Rattle.roc_sequence.proofs.Holds.{all_has, has_all, every_has}
use Rattle.roc_sequence.proofs.Found.{found_has}
use Rattle.roc_sequence.proofs.Ranges.{range_below}
use Rattle.roc_sequence.proofs.Members.{has_append, from_has_map, from_has_filter, has_flat_map, from_has_flat_map}
use Rattle.roc_base.specs.declared.id.TxnId.{TxnId}
use Rattle.roc_base.specs.declared.node.Node.TheVariants.{Server}
use Rattle.roc_base.specs.declared.node.Shard.{Shard}
use Rattle.roc_base.specs.TxnId.{is_txn}
use Rattle.roc_base.specs.Edge.{Dependency, joined}
use Rattle.roc_base.proofs.Union.{AllByRecursion-united}
use Rattle.roc_base.proofs.Members.{has-united}
use Rattle.roc_depgraph.specs.declared.known.KnownList.{KnownList}
use Rattle.roc_msg.specs.declared.outbox.Outgoing.{Outgoing}
use Rattle.roc_msg.specs.Facts.{is_fact_before}
use Rattle.roc_plan.specs.declared.group.Input.{Input}
use Rattle.roc_plan.specs.Groups.{Plan, groups_of, inputs_of, shard_of, group_place}
use Rattle.roc_whole.specs.Serial as whole
use Rattle.roc_law_orders.specs.Behaviour.{is_group_number}
use Rattle.roc_law_orders.specs.Runs.{inputs_at}
use Rattle.roc_law_log.specs.Scheme.{Scheme}
use Rattle.roc_law_log.specs.Log.{Log}
use Rattle.roc_law_log.specs.Invariants.{LogInvariants}
use Rattle.roc_coord.specs.declared.transaction.Transaction.{Transaction}
use Rattle.roc_coord.specs.declared.transaction.TakenStart.{TakenStart}
use Rattle.roc_coord.specs.State.{find_startok}
use Rattle.roc_coord.specs.Starts.{group_numbers, input_value, inputs_for, is_ready, shard_for, start_for, all_started, all_edges, shards_of, gathered, all_facts, commit_to, commits_of}
use Rattle.roc_coord.specs.Step.{commits_for}
use Rattle.roc_law_protocol.specs.Beginnings.{Beginning}
use Rattle.roc_law_protocol.specs.PlanAssumptions.{picked, IsSchemeOf}
use Rattle.roc_law_protocol.proofs.Means.{HasBegun, run_of, Precedes, Ran, stage, values_for, IsSeen, ListMeans, AllMean, ToldMeans, StartMeans, StartIs, Means}
use Rattle.roc_law_protocol.proofs.Facts.{has_fitting}

pub there : {A : Type 0} (o : Option A) → is_some o ≡ true → (a : A) × (o ≡ Some a)
there None h = absurd (false≢true h)
there (Some a) h = (a, refl)

pub from_gathered : (k : KnownList) (facts : List KnownList) → Has k (gathered facts) → Has k facts
from_gathered k [] h = h
from_gathered k (f ∷ facts) h =
    elim (has_append k (filter (λ x. is_fact_before x f) (gathered facts)) (f ∷ filter (λ x. is_fact_before f x) (gathered facts)) h) [
      | inl a ↦ inr (from_gathered k facts (from_has_filter (λ x. is_fact_before x f) k (gathered facts) a).0)
      | inr b ↦ elim b [ inl e ↦ inl e | inr m ↦ inr (from_gathered k facts (from_has_filter (λ x. is_fact_before f x) k (gathered facts) m).0) ]
    ]

module _ (plan : Plan) (asked : TxnId → whole.Call) (S : Scheme) (start : Beginning) (is : IsSchemeOf plan asked S) (c : Log) (i : LogInvariants S start.store c) where
  -- what a coordinator was told of a transaction, whatever it asked
  pub record IsTold (x : Transaction) : Type 0 where
    pub proc : x.proc ≡ (asked x.id).procedure
    pub args : x.args ≡ (asked x.id).arguments
    pub startoks : (ok : TakenStart) → Has ok x.startoks → ToldMeans plan asked S start c (run_of x.id ok.group) ok.bound ok.outs ok.edges ok.facts

  module _ (x : Transaction) (m : IsTold x) where
    abbrev t : TxnId
    t = x.id

    abbrev P : ℕ
    P = (asked t).procedure

    abbrev count : ℕ
    count = length (groups_of plan P)

    pub numbers : group_numbers plan x.proc ≡ range_with_len 0 count
    numbers = ap (group_numbers plan) m.proc

    pub number_below : (g : ℕ) → Has g (group_numbers plan x.proc) → g < count
    number_below g h = all_has (λ g. g < count) g (range_with_len 0 count) (range_below 0 count count (omega arith)) (subst (Has g) numbers h)

    pub below_number : (g : ℕ) → g < count → Has g (group_numbers plan x.proc)
    below_number g h = subst (Has g) (sym numbers) (in_range 0 count g (omega arith) (omega arith))
      where
        in_range : (a n g : ℕ) → a ≤ g → g < a + n → Has g (range_with_len a n)
        in_range a zero g l k = absurd (omega arith)
        in_range a (suc n) g l k = go (cases_eq a g) (in_range (a + 1) n g)
          where
            go : (a ≡ g) ⊎ (a ≢ g) → (a + 1 ≤ g → g < (a + 1) + n → Has g (range_with_len (a + 1) n)) → (g ≡ a) ⊎ Has g (range_with_len (a + 1) n)
            go (inl e) ih = inl (sym e)
            go (inr e) ih = inr (ih (omega arith) (omega arith))

    -- a group of which a startok was taken
    pub told_of : (g : ℕ) → is_some (find_startok g x.startoks) ≡ true → (ok : TakenStart) × Has ok x.startoks × (find_startok g x.startoks ≡ Some ok) × (ok.group ≡ g) × ToldMeans plan asked S start c (run_of t g) ok.bound ok.outs ok.edges ok.facts
    told_of g h =
        let o = there (find_startok g x.startoks) h in
        let f = found_has (λ (ok : TakenStart). ok.group == g) x.startoks o.0 o.1 in
        let e = eqb-true o.0.group g f.1 in
        (o.0, f.0, o.1, e, subst (λ g. ToldMeans plan asked S start c (run_of t g) o.0.bound o.0.outs o.0.edges o.0.facts) e (m.startoks o.0 f.0))

    -- ---- starts

    picked_are :
        (inputs : List Input) → ((a : Input) → Has a inputs → S.is_immediate (run_of t a.group) ≡ true) → list_all (λ a. is_some (find_startok a.group x.startoks)) inputs ≡ true
        → AllByRecursion (Ran plan asked S start c) (map (run_of t) (map (λ a. a.group) inputs))
        × (picked inputs (map (λ q. ((stage plan asked S start c).yielded q).bound) (map (run_of t) (map (λ a. a.group) inputs))) ≡ map (input_value x) inputs)
    picked_are [] now h = (tt, refl)
    picked_are (a ∷ inputs) now h =
        let p = and_parts (is_some (find_startok a.group x.startoks)) (list_all (λ a. is_some (find_startok a.group x.startoks)) inputs) h in
        let o = told_of a.group p.0 in
        let rest = picked_are inputs (λ b k. now b (inr k)) p.1 in
        let imm = now a (inl refl) in
        let value : slice_index_or ((stage plan asked S start c).yielded (run_of t a.group)).bound a.at (pos 0) ≡ input_value x a =
        ap (λ b. slice_index_or b a.at (pos 0)) (sym (o.4.bound_now imm)) ∙ sym (value_is a o.0 o.2) in
        ((i.now_ran (run_of t a.group) o.4.began imm, rest.0), λ k. value k ∷ rest.1 k)
      where
        value_is : (a : Input) (ok : TakenStart) → find_startok a.group x.startoks ≡ Some ok → input_value x a ≡ slice_index_or ok.bound a.at (pos 0)
        value_is a ok e = rw e refl

    -- a ready group may start, on the shard of its place
    pub record IsReadyGroup (g : ℕ) : Type 0 where
      pub means : StartMeans plan asked S start c (run_of t g) (shard_for plan x g).0
      pub inputs : inputs_for plan x g ≡ values_for plan asked S start c (run_of t g)

    pub ready_group : (g : ℕ) → g < count → is_ready plan x g ≡ true → IsReadyGroup g
    ready_group g l h =
        let r = run_of t g in
        let h2 : list_all (λ a. is_some (find_startok a.group x.startoks)) (inputs_of plan P g) ≡ true = subst (λ p. list_all (λ a. is_some (find_startok a.group x.startoks)) (inputs_of plan p g) ≡ true) m.proc h in
        let p = picked_are (inputs_of plan P g) (λ a k. is.immediate (run_of t a.group) ∙ is.from_immediate r a k) h2 in
        let values : inputs_for plan x g ≡ values_for plan asked S start c r =
        ap (λ p. map (input_value x) (inputs_of plan p g)) m.proc
        ∙ (sym p.1 ∙ ap (λ l. picked (inputs_of plan P g) (map (λ q. ((stage plan asked S start c).yielded q).bound) (map (run_of t) l))) (sym (is.sources r))) in
        record {
          means = record {
            listed = (is.groups t g).1 l;
            needs_ran = subst (λ l. AllByRecursion (Ran plan asked S start c) (map (run_of t) l)) (sym (is.sources r)) p.0;
            on = is.group_shard r (inputs_at S.behaviour (stage plan asked S start c) r)
                ∙ sym (λ k. shard_of plan (group_place plan (m.proc k) g (m.args k) (values k)));
          };
          inputs = values;
        }

    pub start_is : (g : ℕ) → g < count → is_ready plan x g ≡ true → StartIs plan asked S start c t x.proc g x.args (inputs_for plan x g) (Server (shard_for plan x g))
    start_is g l h =
        let q = ready_group g l h in
        record {
          proc = m.proc;
          args = m.args;
          inputs = q.inputs;
          means = record { listed = q.means.listed; needs_ran = q.means.needs_ran; on = refl };
          to = ap (λ (n : ℕ). Server (record { 0 = n })) (sym q.means.on);
        }

    pub starts_mean : (p : ℕ → Bool) → ((g : ℕ) → g < count → p g ≡ true → is_ready plan x g ≡ true) → (out : Outgoing) → Has out (map (start_for plan x) (filter p (group_numbers plan x.proc))) → Means plan asked S start c out.msg out.to
    starts_mean p h out k =
        let q = from_has_map (start_for plan x) out (filter p (group_numbers plan x.proc)) k in
        let f = from_has_filter p q.0 (group_numbers plan x.proc) q.1 in
        let l = number_below q.0 f.0 in
        subst (λ (o : Outgoing). Means plan asked S start c o.msg o.to) (sym q.2) (start_is q.0 l (h q.0 l f.1))

    -- ---- commits

    module _ (all : all_started plan x ≡ true) where
      pub told_all : (g : ℕ) → g < count → (ok : TakenStart) × Has ok x.startoks × (find_startok g x.startoks ≡ Some ok) × (ok.group ≡ g) × ToldMeans plan asked S start c (run_of t g) ok.bound ok.outs ok.edges ok.facts
      told_all g l = told_of g (every_has (λ g. is_some (find_startok g x.startoks)) (group_numbers plan x.proc) all g (below_number g l))

      abbrev raw : List Dependency
      raw = flat_map (λ (ok : TakenStart). ok.edges) x.startoks

      seen_raw : (d : Dependency) → Has d raw → IsSeen plan asked S start c t d
      seen_raw d h =
          let a = from_has_flat_map (λ (ok : TakenStart). ok.edges) d x.startoks h in
          let r = run_of t a.0.group in
          let q = (m.startoks a.0 a.1).edges.sound d a.2 in
          record { placed = (r, refl, q.0, q.3); by_now = λ f. (r, refl, q.0, sym q.1 ∙ f) }

      seen_both : (a b : Dependency) → a.from ≡ b.from → IsSeen plan asked S start c t a → IsSeen plan asked S start c t b → IsSeen plan asked S start c t (joined a b)
      seen_both a b e p q =
          record {
            placed = elim (cases_lt a.at.0 b.at.0) [
              | inl k ↦ (p.placed.0, p.placed.1, p.placed.2, (let v = p.placed.3 in omega arith))
              | inr k ↦ (q.placed.0, q.placed.1, subst (λ u. Precedes plan asked S start c u q.placed.0) (sym e) q.placed.2, (let v = q.placed.3 in omega arith))
            ];
            by_now = λ f. elim (or_cases a.imm b.imm f) [ inl k ↦ p.by_now k | inr k ↦ (let z = q.by_now k in (z.0, z.1, subst (λ u. Precedes plan asked S start c u z.0) (sym e) z.2, z.3)) ];
          }

      pub list_means : ListMeans plan asked S start c t (all_edges x)
      list_means =
          record {
            is_whole = λ g l. (told_all g ((is.groups t g).0 l)).4.began;
            sound = λ d h. all_has (IsSeen plan asked S start c t) d (all_edges x) (AllByRecursion-united (IsSeen plan asked S start c t) seen_both raw (has_all (IsSeen plan asked S start c t) raw seen_raw)) h;
            complete = λ u r e b.
                (let l = subst (λ t. IsListed is_group_number (S.behaviour.groups t) r.group) e (i.are_groups r b.began) in
                let o = told_all r.group ((is.groups t r.group).0 l) in
                let same : r ≡ run_of t r.group = λ k. record { txn = e k; group = r.group } in
                let q = o.4.edges.complete u (subst (Precedes plan asked S start c u) same b) in
                let z = o.4.edges.sound q.0 q.1 in
                let p = has-united raw q.0 (has_flat_map (λ (ok : TakenStart). ok.edges) q.0 o.0 x.startoks o.1 q.1) in
                (p.0, p.1, p.2.from ∙ q.2, λ f. p.2.imm (z.1 ∙ (ap S.is_immediate (sym same) ∙ f))));
          }

      facts_mean : AllMean plan asked S start c (all_facts x)
      facts_mean k h =
          let a = (from_has_filter (λ fact. not (is_txn fact.of x.id)) k (gathered (flat_map (λ (ok : TakenStart). ok.facts) x.startoks)) (has_fitting (filter (λ fact. not (is_txn fact.of x.id)) (gathered (flat_map (λ (ok : TakenStart). ok.facts) x.startoks))) k h)).0 in
          let b = from_has_flat_map (λ (ok : TakenStart). ok.facts) k x.startoks (from_gathered k (flat_map (λ (ok : TakenStart). ok.facts) x.startoks) a) in
          (m.startoks b.0 b.1).facts k b.2

      pub lists_mean : AllMean plan asked S start c (record { of = t; edges = all_edges x } ∷ all_facts x)
      lists_mean k (inl e) = subst (λ (k : KnownList). ListMeans plan asked S start c k.of k.edges) (sym e) list_means
      lists_mean k (inr h) = facts_mean k h

      pub commits_mean : (shards : List Shard) → ((s : Shard) → Has s shards → HasBegun plan asked S start c t s.0) → (out : Outgoing) → Has out (map (commit_to x) shards) → Means plan asked S start c out.msg out.to
      commits_mean shards begun out h = let q = from_has_map (commit_to x) out shards h in subst (λ (o : Outgoing). Means plan asked S start c o.msg o.to) (sym q.2) (lists_mean, begun q.0 q.1)

    pub commits_for-mean : (all_started plan x ≡ true → (s : Shard) → Has s (shards_of x) → HasBegun plan asked S start c t s.0) → (out : Outgoing) → Has out (commits_for plan x) → Means plan asked S start c out.msg out.to
    commits_for-mean begun out h = go (all_started plan x) refl h
      where
        go : (b : Bool) → all_started plan x ≡ b → Has out (cond b (commits_of x) []) → Means plan asked S start c out.msg out.to
        go true e k = commits_mean e (shards_of x) (begun e) out k
        go false e k = absurd k
