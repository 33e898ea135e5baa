-- A server's lists change, and its shard decides
use Rattle.std.proofs.Common.{◌≡◌, ◌≢◌, ℕ, ◌==◌, Bool, true, false, not, cond, List, [], ◌∷◌, ◌++◌, Option, Some, None, refl, sym, ap, subst, ◌∙◌, ◌⊎◌, inl, inr, is_some}
use Rattle.std.proofs.lemmas.Bool.{false≢true, and_parts, eq-eqb, eqb-true, cond-true, cond-false, not-true, not-false, not_from_false, false_from_ne_true, ne_eqb}
use Rattle.std.specs.Prelude.{filter_map, find}
use Rattle.std.specs.List.{cons_option, range_with_len}
use Rattle.roc_sequence.specs.Lists.{Has}
use Rattle.roc_sequence.specs.Places.{IsListed, is_listed}
use Rattle.roc_sequence.proofs.Holds.{all_weaker}
use Rattle.roc_sequence.proofs.Found.{found_has}
use Rattle.roc_sequence.proofs.Places.{listed_or_not, listed_true, listed_false, unlisted_test}
use Rattle.roc_sequence.proofs.Filtered.{listed_filter, from_listed_filter}
use Rattle.roc_sequence.proofs.Members.{from_has_filter}
use Rattle.roc_sequence.proofs.Listed as groups
use Rattle.roc_sequence.proofs.Appended.{listed_either}
use Rattle.roc_base.specs.declared.id.TxnId.{TxnId}
use Rattle.roc_base.specs.TxnId.{is_txn}
use Rattle.roc_base.specs.Equalities.{is_txn-true}
use Rattle.roc_rows.specs.declared.cell.Cell.{Cell}
use Rattle.roc_rows.specs.Store.{read}
use Rattle.roc_depgraph.specs.declared.known.KnownList.{KnownList}
use Rattle.roc_depgraph.specs.Deps.{list_of, IsKnown, Precedes, IsDecided}
use Rattle.roc_depgraph.specs.Reach.{direct}
use Rattle.roc_depgraph.proofs.Laws.{KeepsLists, ancestor_decided}
use Rattle.roc_depgraph.proofs.Listed.{has_listed}
use Rattle.roc_plan.specs.Groups.{Plan, is_immediate_of}
use Rattle.roc_whole.specs.Serial as whole
use Rattle.roc_law_orders.specs.Behaviour.{TxnGroup, is_txn_group}
use Rattle.roc_law_orders.specs.Runs.{Stage, needs, after_group, after_groups}
use Rattle.roc_law_orders.specs.Orders.{one_by_one}
use Rattle.roc_law_orders.proofs.SameGroups.{same_group, is_group-same}
use Rattle.roc_law_orders.proofs.OneByOne.{from_order}
use Rattle.roc_law_orders.proofs.Stages.{after-yielded_other, same_inputs}
use Rattle.roc_law_log.specs.Scheme.{Scheme}
use Rattle.roc_law_log.specs.Log.{Log, PrecedesTxn, IsWhole}
use Rattle.roc_law_log.specs.Settled.{IsSettled}
use Rattle.roc_law_log.specs.Steps.{MayDecide, IsWaived, waits_here, waiting_here, new_in, with_decision, IsReachedLog, LogStep, shard_decides, no_steps, one_step_more}
use Rattle.roc_law_log.specs.Invariants.{LogInvariants, LogGrows}
use Rattle.roc_step.specs.declared.started.StartedGroup.{StartedGroup}
use Rattle.roc_step.specs.State.{is_group, is_here, find_group, ServerState, Lists}
use Rattle.roc_step.specs.New.{AreNewTaken}
use Rattle.roc_step.specs.Runs.{count_of_groups, groups_here, buffered_here, take_all}
use Rattle.roc_step.specs.declared.waits.OpenFetch.{OpenFetch}
use Rattle.roc_law_protocol.specs.PlanAssumptions.{IsSchemeOf}
use Rattle.roc_law_protocol.specs.Beginnings.{Beginning}
use Rattle.roc_law_protocol.specs.Inner.Given.{LogLaws}
use Rattle.roc_law_protocol.proofs.Means.{HasBegun, entry_run, place, Ran, Began, stage, AllMean, AreGroupsHere, ServerMeans}
use Rattle.roc_law_protocol.proofs.KeptGroups.{take_some}
use Rattle.roc_law_protocol.proofs.Followed.{AreFollowedOf}
use Rattle.roc_law_protocol.proofs.SaidOfServers.{here_decided, found_or_decided}
use Rattle.roc_law_protocol.proofs.FollowedEdges.{edge, edge_now, complete, are_edges, starts_whole}
use Rattle.roc_law_protocol.proofs.Flattened.{flat}
use Rattle.roc_law_protocol.proofs.Grows.{place_grows}
use Rattle.roc_law_protocol.proofs.Local.{after_append}
use Rattle.roc_law_protocol.proofs.Runs.{IsWaiting, IsAt, take_parts}
use Rattle.roc_law_protocol.proofs.Elsewhere.{IsQuietOn}

-- ---- lists

pub from_has_filter_map : {A B : Type 0} (f : A → Option B) (b : B) (xs : List A) → Has b (filter_map f xs) → (a : A) × Has a xs × (f a ≡ Some b)
from_has_filter_map f b [] h = absurd h
from_has_filter_map f b (x ∷ xs) h = go (f x) refl h (from_has_filter_map f b xs)
  where
    go : (o : Option _) → f x ≡ o → Has b (cons_option o (filter_map f xs)) → (Has b (filter_map f xs) → (a : _) × Has a xs × (f a ≡ Some b)) → (a : _) × Has a (x ∷ xs) × (f a ≡ Some b)
    go None e k ih = let r = ih k in (r.0, inr r.1, r.2)
    go (Some c) e (inl k) ih = (x, inl refl, e ∙ ap (λ z. Some z) (sym k))
    go (Some c) e (inr k) ih = let r = ih k in (r.0, inr r.1, r.2)

pub more_keeps : (known news : List KnownList) → KeepsLists known (known ++ news)
more_keeps [] news t h = absurd (false≢true h)
more_keeps (k ∷ known) news t h = go (is_txn k.of t) h (more_keeps known news t)
  where
    go : (b : Bool) → is_some (cond b (Some k.edges) (list_of t known)) ≡ true → (IsKnown known t → list_of t (known ++ news) ≡ list_of t known) → cond b (Some k.edges) (list_of t (known ++ news)) ≡ cond b (Some k.edges) (list_of t known)
    go true m ih = refl
    go false m ih = ih m

-- The lists of a server change: they mean what they say, and all is followed of them but what names what is settled. These are the components
-- that are newly decided
pub record IsChange (plan : Plan) (asked : TxnId → whole.Call) (S : Scheme) (start : Beginning) (c : Log) (s : ServerState) (lists : Lists) (comps : List (List TxnId)) : Type 0 where
  pub known : AllMean plan asked S start c lists.known
  pub links : AreFollowedOf (IsSettled S start.store c) lists.known lists.links
  -- what was known is so still, and nothing more is followed of it
  pub keeps : (t : TxnId) → IsKnown s.lists.links t → IsKnown lists.links t
  pub was : (u t : TxnId) → IsKnown s.lists.links t → Precedes lists.links u t → Precedes s.lists.links u t
  pub asked_begun : (a : OpenFetch) → Has a lists.waiting.asked → HasBegun plan asked S start c a.id a.at.0
  pub new : AreNewTaken (IsDecided s.lists.links) lists.links comps
  pub taken : lists.taken ≡ s.lists.taken ++ comps

module _ (plan : Plan) (asked : TxnId → whole.Call) (S : Scheme) (start : Beginning) (is : IsSchemeOf plan asked S) (laws : LogLaws S start.store) (c : Log) (reached : IsReachedLog S start.store c) (n : ℕ) (s : ServerState) (o : ServerMeans plan asked S start c n s) (lists : Lists) (comps : List (List TxnId)) (change : IsChange plan asked S start c s lists comps) where
  abbrev pub K : List KnownList
  K = lists.links

  abbrev pub E : TxnId → TxnId → Type 0
  E = PrecedesTxn S start.store c.past

  -- what the lists newly decide
  abbrev pub all : List TxnId
  all = flat comps

  -- and what of it the shard never decided before
  abbrev pub ts : List TxnId
  ts = new_in (c.decided n) all

  abbrev is_new : TxnId → Bool
  is_new t = not (is_listed is_txn (c.decided n) t)

  pub i : LogInvariants S start.store c
  i = laws.holds c reached

  pub decided_of : (t : TxnId) → IsListed is_txn all t → IsDecided K t
  decided_of t h = (change.new.members.only t h).0

  pub of_ts : (t : TxnId) → IsListed is_txn ts t → (¬ IsListed is_txn (c.decided n) t) × IsListed is_txn all t
  of_ts t h =
      let f = from_listed_filter is_txn is_txn-true is_new all t h in
      (listed_false is_txn (c.decided n) t (not-true (is_listed is_txn (c.decided n) t) f.0), f.1)

  pub in_ts : (t : TxnId) → IsListed is_txn all t → ¬ IsListed is_txn (c.decided n) t → IsListed is_txn ts t
  in_ts t h apart = listed_filter is_txn is_txn-true is_new all t (not_from_false (is_listed is_txn (c.decided n) t) (unlisted_test is_txn (c.decided n) t apart)) h

  -- what is decided now is new or was
  pub new_or : (u : TxnId) → IsDecided K u → IsListed is_txn (c.decided n) u ⊎ IsListed is_txn ts u
  new_or u h = elim (listed_or_not is_txn (c.decided n) u) [
    | inl k ↦ inl k
    | inr a ↦ inr (in_ts u (change.new.members.all u (h, λ d. a (o.back u d))) a)
  ]

  closed : (u t : TxnId) → IsListed is_txn ts t → E u t → IsListed is_txn (c.decided n) u ⊎ (IsListed is_txn ts u ⊎ IsWaived S start.store c u)
  closed u t h p =
      let d = decided_of t (of_ts t h).1 in
      elim (complete plan asked S start c lists.known K change.known change.links u t d.own p) [
        | inl e ↦ elim (new_or u (ancestor_decided K u t d (direct e))) [ inl k ↦ inl k | inr k ↦ inr (inl k) ]
        | inr z ↦ inr (inr z)
      ]

  pub is_whole : (t : TxnId) → IsListed is_txn ts t → IsWhole S c.past.started t
  is_whole t h = starts_whole plan asked S start c lists.known K change.known change.links t (decided_of t (of_ts t h).1).own

  pub may : MayDecide S start.store c n ts
  may =
      record {
        new = λ t h. (of_ts t h).0;
        whole = is_whole;
        closed = closed;
        ordered = laws.taken c i n (edge plan asked S start c lists.known K change.known change.links) (edge_now plan asked S start c lists.known K change.known change.links) all all
            (are_edges plan asked S start c lists.known K change.known change.links all (λ t h. (decided_of t h).own)) closed change.new.taken.order;
      }

  abbrev pub d : Log
  d = with_decision S start.store c n ts

  pub step : LogStep S start.store c d
  step = shard_decides n ts may

  pub reached_after : IsReachedLog S start.store d
  reached_after = one_step_more reached step

  pub j : LogInvariants S start.store d
  j = laws.holds d reached_after

  pub g : LogGrows S start.store c d
  g = laws.grows c d i (one_step_more no_steps step)

  abbrev X : Stage
  X = stage plan asked S start c

  abbrev Y : Stage
  Y = stage plan asked S start d

  abbrev T : List TxnGroup
  T = waiting_here S start.store c.past.ran n ts

  pub Y_is : Y ≡ after_groups S.behaviour X T
  Y_is = after_append S.behaviour _ c.past.ran T

  pub decided_is : d.decided n ≡ c.decided n ++ ts
  decided_is = cond-true (n == n) (c.decided n ++ ts) (c.decided n) (eq-eqb n n refl)

  record IsOfT (r : TxnGroup) : Type 0 where
    taken : IsListed is_txn ts r.txn
    began : Began plan asked S start c r
    later : S.is_immediate r ≡ false
    on : place plan asked S start c r ≡ n

  of_T : (r : TxnGroup) → Has r T → IsOfT r
  of_T r h =
      let f = from_has_filter (waits_here S start.store c.past.ran n) r (one_by_one S.behaviour ts) h in
      let z = from_order S.behaviour ts r (groups.has_listed is_txn_group same_group is_group-same (one_by_one S.behaviour ts) r f.0) in
      let p = and_parts (not (S.is_immediate r)) (place plan asked S start c r == n) f.1 in
      record { taken = z.0; began = is_whole r.txn z.0 r.group z.1; later = not-true (S.is_immediate r) p.0; on = eqb-true (place plan asked S start c r) n p.1 }

  not_ran : (r : TxnGroup) → Has r T → ¬ Ran plan asked S start c r
  not_ran r h k = let q = of_T r h in (of_ts r.txn q.taken).0 (subst (λ n. IsListed is_txn (c.decided n) r.txn) q.on (i.later_decided r k q.later))

  pub ran_cases : (q : TxnGroup) → Ran plan asked S start d q → Ran plan asked S start c q ⊎ Has q T
  ran_cases q h = elim (listed_either is_txn_group c.past.ran T q h) [ inl k ↦ inl k | inr k ↦ inr (groups.listed_has is_txn_group same_group is_group-same T q k.1) ]

  -- ---- what runs here

  -- what began here is found, if the shard did not decide its transaction
  abbrev WasDecided : TxnId → Type 0
  WasDecided t = IsListed is_txn (c.decided n) t

  pub groups_found : AreGroupsHere plan asked S start c n WasDecided s.started
  groups_found =
      record {
        entries = o.groups.entries;
        finds = λ r b p. found_or_decided plan asked S start c n s o r b p;
      }

  -- a buffered group of a transaction waits
  waiting : (t : TxnId) → IsWhole S c.past.started t → (st : ServerState) → AreGroupsHere plan asked S start c n WasDecided st.started → (e : StartedGroup) → Has e (buffered_here plan t st.started) → ¬ Ran plan asked S start c (entry_run e) → IsWaiting plan asked S start is laws c n WasDecided e
  waiting t w st h e k fresh =
      let f = from_has_filter (λ (e : StartedGroup). not (is_immediate_of plan e.proc e.group)) e (groups_here plan t st.started) k in
      let g = from_has_filter_map (λ g. find_group t g st.started) e (range_with_len 0 (count_of_groups plan (find (λ (e : StartedGroup). is_txn e.id t) st.started))) f.0 in
      let m = h.entries e (found_has (is_group t g.0) st.started e g.2).0 in
      record {
        means = m;
        later = is.immediate (entry_run e) ∙ (ap (λ p. is_immediate_of plan p e.group) (sym m.proc) ∙ not-true (is_immediate_of plan e.proc e.group) f.1);
        needs_ran = i.needs_ran (entry_run e) m.told.began;
        not_ran = fresh;
      }

  abbrev pub before_run : ServerState
  before_run = record s { lists = lists }

  abbrev pub after : ServerState
  after = take_all plan before_run all

  -- what is decided again has no group here
  pub again_nowhere : (t : TxnId) → Has t all → is_new t ≡ false → is_here t s.started ≡ false
  again_nowhere t h k =
      false_from_ne_true (is_here t s.started)
      (λ here. (change.new.members.only t (has_listed all t h)).1 (here_decided plan asked S start c n s o t here (listed_true is_txn (c.decided n) t (not-false (is_listed is_txn (c.decided n) t) k))))

  pub at_end : IsAt plan asked S start is laws c n WasDecided (λ q. Ran plan asked S start c q ⊎ Has q T) (after_groups S.behaviour X T) after
  at_end =
      subst (IsAt plan asked S start is laws c n WasDecided (λ q. Ran plan asked S start c q ⊎ Has q T) (after_groups S.behaviour X T)) (sym (take_some plan is_new all before_run again_nowhere))
      (take_parts plan asked S start is laws c n WasDecided waiting ts (λ t h. is_whole t (has_listed ts t h)) (λ t h. (of_ts t (has_listed ts t h)).0) not_ran (Ran plan asked S start c) X before_run
      (record { keeps = λ q h. refl; groups = groups_found; part = o.part }))

  -- ---- the other shards

  -- groups that run here leave the cells of other shards
  cells_away : (other : ℕ) → n ≢ other → (x : Cell) → S.cell_shard x ≡ other → (Q : List TxnGroup) → ((r : TxnGroup) → Has r Q → Has r T) → (Z : Stage) → ((q : TxnGroup) → Ran plan asked S start c q → Z.yielded q ≡ X.yielded q) → read (after_groups S.behaviour Z Q).store x ≡ read Z.store x
  cells_away other apart x e [] up Z keep = refl
  cells_away other apart x e (r ∷ Q) up Z keep =
      let q = of_T r (up r (inl refl)) in
      let given = same_inputs S.behaviour Z X r (all_weaker (Ran plan asked S start c) (λ q. Z.yielded q ≡ X.yielded q) keep (needs S.behaviour r) (i.needs_ran r q.began)) in
      cells_away other apart x e Q (λ p h. up p (inr h)) (after_group S.behaviour Z r) (λ p h. after-yielded_other S.behaviour Z r p (false_from_ne_true (is_txn_group r p) (λ t. not_ran r (up r (inl refl)) (subst (Ran plan asked S start c) (sym (same_group r p t)) h))) ∙ keep p h)
      ∙ laws.elsewhere Z r x (λ y. apart (sym q.on ∙ (ap (S.group_shard r) (sym given) ∙ (sym y ∙ e))))

  pub quiet_elsewhere : (other : ℕ) → n ≢ other → IsQuietOn plan asked S start c d other
  quiet_elsewhere other apart =
      record {
        began = λ q h p. h;
        ran = λ q h imm p. elim (ran_cases q h) [
          | inl k ↦ k
          | inr k ↦ (let z = of_T q k in absurd (apart (sym z.on ∙ (sym (place_grows plan asked S start is c d i j g q z.began) ∙ p))))
        ];
        cells = λ x e. ap (λ (Z : Stage). read Z.store x) Y_is ∙ cells_away other apart x e T (λ r h. h) X (λ q h. refl);
        decided = cond-false (n == other) (c.decided n ++ ts) (c.decided other) (ne_eqb n other apart);
      }
