-- Steps of a server that steps of the log explain: where the log does nothing, and where the server's lists change
use Rattle.std.proofs.Common.{append-nil, ◌≡◌, ◌≢◌, ℕ, true, not, List, [], ◌∷◌, ◌++◌, Some, map, refl, sym, ap, subst, ◌∙◌, ◌⊎◌, inl, inr}
use Rattle.std.proofs.lemmas.List.{map-append}
use Rattle.std.proofs.lemmas.List.Elements.{filter-append}
use Rattle.std.specs.List.{range_with_len}
use Rattle.std.specs.Prelude.{slice_get, filter, find}
use Rattle.roc_sequence.specs.Lists.{Has}
use Rattle.roc_sequence.specs.Places.{IsListed}
use Rattle.roc_sequence.proofs.Found.{found_has}
use Rattle.roc_sequence.proofs.Members.{has_append, from_has_map, from_has_filter, from_has_flat_map}
use Rattle.roc_base.specs.declared.id.TxnId.{TxnId}
use Rattle.roc_base.specs.TxnId.{is_txn}
use Rattle.roc_depgraph.proofs.Listed.{has_listed}
use Rattle.roc_msg.specs.declared.outbox.Outgoing.{Outgoing}
use Rattle.roc_plan.specs.Groups.{Plan, is_immediate_of}
use Rattle.roc_whole.specs.Serial as whole
use Rattle.roc_law_orders.specs.Behaviour.{TxnGroup}
use Rattle.roc_law_orders.specs.Orders.{all_groups, one_by_one}
use Rattle.roc_law_log.specs.Scheme.{Scheme}
use Rattle.roc_law_log.specs.Log.{Log, IsWhole}
use Rattle.roc_law_log.specs.Steps.{LogSteps, no_steps, one_step_more, new_in, waits_here, waiting_here}
use Rattle.roc_law_log.specs.Invariants.{LogInvariants, LogGrows}
use Rattle.roc_step.specs.declared.started.StartedGroup.{StartedGroup}
use Rattle.roc_step.specs.declared.handled.Handled.{Handled}
use Rattle.roc_step.specs.State.{refused, unrun, is_group, is_here, find_group, Lists, ServerState, ServerStep}
use Rattle.roc_step.specs.Forgets.{forget, forgetting}
use Rattle.roc_step.specs.Runs.{count_of_groups, groups_here, buffered_here, all_buffered, commitok_of, outs_here}
use Rattle.roc_step.specs.Lists.{decides}
use Rattle.roc_audit.specs.Order.{noted}
use Rattle.roc_law_protocol.specs.PlanAssumptions.{IsSchemeOf}
use Rattle.roc_law_protocol.specs.Beginnings.{Beginning}
use Rattle.roc_law_protocol.specs.World.{World, at_server}
use Rattle.roc_law_protocol.specs.Happens.{ran_at}
use Rattle.roc_law_protocol.specs.Inner.Given.{LogLaws}
use Rattle.roc_law_protocol.proofs.Means.{IsOther, entry_run, RanMeans, Began, Means, DoneMeans, ServerMeans, WorldMeans}
use Rattle.roc_law_protocol.proofs.KeptGroups.{take_same, buffered_some}
use Rattle.roc_law_protocol.proofs.Gone.{here_stays}
use Rattle.roc_law_protocol.proofs.Flattened.{flat, in_listed}
use Rattle.roc_law_protocol.proofs.Grows.{entry_grows, means_grow}
use Rattle.roc_law_protocol.proofs.Buffered.{buffered_runs, outs_told}
use Rattle.roc_law_protocol.proofs.Changed.{noted-new, new_in-less, server_means}
use Rattle.roc_law_protocol.proofs.Elsewhere.{server_elsewhere}
use Rattle.roc_law_protocol.proofs.Deciding.{IsChange, from_has_filter_map}
use Rattle.roc_law_protocol.proofs.Deciding as deciding
use Rattle.roc_law_protocol.proofs.TakenNow as taking
use Rattle.roc_law_protocol.proofs.Changing as changing
use Rattle.roc_law_protocol.proofs.Forgets.{forget_means}
use Rattle.roc_law_protocol.proofs.TakesOn.{AreDecidedIn, none_decided}
use Rattle.roc_law_protocol.proofs.KeepsTaken.{KeepsTaken, KeepsState, state_itself, keeps_still, keeps_forgetting_none, keeps_changing}

-- groups that are buffered are here
pub was_buffered : (plan : Plan) (started : List StartedGroup) (ts : List TxnId) (e : StartedGroup) → Has e (all_buffered plan started ts) → Has e started
was_buffered plan started ts e h =
    let t = from_has_flat_map (λ t. buffered_here plan t started) e ts h in
    let b = from_has_filter (λ e. not (is_immediate_of plan e.proc e.group)) e (groups_here plan t.0 started) t.2 in
    let f = from_has_filter_map (λ g. find_group t.0 g started) e (range_with_len 0 (count_of_groups plan (find (λ e. is_txn e.id t.0) started))) b.0 in
    (found_has (is_group t.0 f.0) started e f.2).0

module _ (plan : Plan) (asked : TxnId → whole.Call) (S : Scheme) (start : Beginning) (is : IsSchemeOf plan asked S) (laws : LogLaws S start.store) (c : Log) (w : World)
    (o : WorldMeans plan asked S start c w) (n : ℕ) (s : ServerState) (there : slice_get w.servers n ≡ Some s) (Fresh : TxnId → Type 0)
    (called : (r : TxnGroup) → Began plan asked S start c r → ¬ IsOther asked start r.txn) where
  -- some steps of the log explain the world after a step of the server
  pub record IsExplained (r : ServerStep) : Type 0 where
    pub log : Log
    pub steps : LogSteps S start.store c log
    pub means : WorldMeans plan asked S start log (at_server w n r)
    -- the shard decided of what the step says what it had not decided before
    pub decides : log.decided n ≡ c.decided n ++ new_in (c.decided n) r.decided
    pub components : AreDecidedIn S start n log r.components
    -- and it keeps what it took, but for what is over
    pub keeps : KeepsTaken s r.state r.components
    -- where it takes some, no group starts; other shards decide nothing, and nobody is answered
    pub starts_none : (k : List TxnId) → Has k r.components → (q : TxnGroup) → Began plan asked S start log q → Began plan asked S start c q
    pub elsewhere : (m : ℕ) → n ≢ m → log.decided m ≡ c.decided m
    pub answers : log.answered ≡ c.answered
    -- what starts is fresh
    pub began : (q : TxnGroup) → Began plan asked S start log q → Began plan asked S start c q ⊎ Fresh q.txn
    -- in the log runs what the step says, on this shard, and uses what is kept of it
    pub ran : log.past.ran ≡ c.past.ran ++ map entry_run r.ran
    pub each : (e : StartedGroup) → Has e r.ran → RanMeans plan asked S start log (ran_at n e)

  i : LogInvariants S start.store c
  i = laws.holds c o.reached

  -- the log does nothing
  pub still : (r : ServerStep) → ServerMeans plan asked S start c n r.state → ((out : Outgoing) → Has out r.sends → Means plan asked S start c out.msg out.to) → KeepsTaken s r.state []
      → r.components ≡ [] → r.decided ≡ [] → r.ran ≡ [] → IsExplained r
  still r after sends kept apart none idle =
      record {
        log = c;
        steps = no_steps;
        means = server_means plan asked S start is c c i i (laws.grows c c i no_steps) o.reached w o n s r there after (λ m apart v h. o.servers m v h) sends (ap (noted w.order) none ∙ o.order) refl;
        decides = sym (append-nil (c.decided n)) ∙ ap (λ ts. c.decided n ++ new_in (c.decided n) ts) (sym none);
        components = subst (AreDecidedIn S start n c) (sym apart) (none_decided S start n c);
        keeps = subst (KeepsTaken s r.state) (sym apart) kept;
        starts_none = λ k h q b. b;
        elsewhere = λ m other. refl;
        answers = refl;
        began = λ q h. inl h;
        ran = sym (append-nil c.past.ran) ∙ ap (λ es. c.past.ran ++ map entry_run es) (sym idle);
        each = λ e h. absurd (subst (Has e) idle h);
      }

  pub refuses : ServerMeans plan asked S start c n s → (answer : Handled) → IsExplained (refused s answer)
  refuses mine answer = still (refused s answer) mine (λ out h. absurd h) (keeps_still s s (state_itself s) refl mine.taken.one) refl refl refl

  -- it does nothing, and what is over is forgotten
  pub forgets_still : (r : ServerStep) → ServerMeans plan asked S start c n r.state → ((out : Outgoing) → Has out r.sends → Means plan asked S start c out.msg out.to)
      → KeepsState s r.state → r.components ≡ [] → r.decided ≡ [] → r.ran ≡ [] → IsExplained (forgetting r)
  forgets_still r after sends kept apart none idle = still (forgetting r) (forget_means plan asked S start is c i called n r.state after) sends (keeps_forgetting_none s r.state kept after.taken.one) apart none idle

  -- ---- lists change, in a state that means what the log says

  module _ (v : ServerState) (ov : ServerMeans plan asked S start c n v) (lists : Lists) (comps : List (List TxnId)) (change : IsChange plan asked S start c v lists comps) where
    abbrev all : List TxnId
    all = flat comps

    abbrev ts : List TxnId
    ts = deciding.ts plan asked S start is laws c o.reached n v ov lists comps change

    abbrev pub d : Log
    d = deciding.d plan asked S start is laws c o.reached n v ov lists comps change

    abbrev pub after : ServerState
    after = deciding.after plan asked S start is laws c o.reached n v ov lists comps change

    pub j : LogInvariants S start.store d
    j = deciding.j plan asked S start is laws c o.reached n v ov lists comps change

    pub g : LogGrows S start.store c d
    g = deciding.g plan asked S start is laws c o.reached n v ov lists comps change

    then_means : ServerMeans plan asked S start d n after
    then_means = changing.server_after plan asked S start is laws c o.reached n v ov lists comps change

    pub decided_then : (t : TxnId) → IsListed is_txn all t → IsListed is_txn (d.decided n) t
    decided_then t h = changing.taken_decided plan asked S start is laws c o.reached n v ov lists comps change t h

    -- ---- what is sent

    pub commitok_means : (t : TxnId) → is_here t v.started ≡ true → IsListed is_txn (d.decided n) t → Means plan asked S start d (commitok_of plan after t).msg (commitok_of plan after t).to
    commitok_means t here h = (
      subst (λ k. DoneMeans plan asked S start d t k (outs_here plan t after.started)) (sym then_means.number)
          (outs_told plan asked S start is d j n after then_means t h (here_stays after t ((take_same plan all (record v { lists = lists })).here t here))),
      refl,
    )

    pub sends_mean : (told asks : List Outgoing) → ((out : Outgoing) → Has out told → Means plan asked S start c out.msg out.to)
        → ((out : Outgoing) → Has out asks → Means plan asked S start c out.msg out.to)
        → (out : Outgoing) → Has out (decides plan v lists comps told asks).sends → Means plan asked S start d out.msg out.to
    sends_mean told asks tell ask out h = elim (has_append out told (map (commitok_of plan after) (filter (λ t. is_here t v.started) all) ++ asks) h) [
      | inl k ↦ means_grow plan asked S start is c d i j g out.msg out.to (tell out k)
      | inr k ↦ elim (has_append out (map (commitok_of plan after) (filter (λ t. is_here t v.started) all)) asks k) [
        | inl l ↦
            (let q = from_has_map (commitok_of plan after) out (filter (λ t. is_here t v.started) all) l in
            let f = from_has_filter (λ t. is_here t v.started) q.0 all q.1 in
            subst (λ (out : Outgoing). Means plan asked S start d out.msg out.to) (sym q.2) (commitok_means q.0 f.1 (decided_then q.0 (has_listed all q.0 f.0))))
        | inr l ↦ means_grow plan asked S start is c d i j g out.msg out.to (ask out l)
      ]
    ]

    -- ---- what runs

    -- a group that is kept ran as it is kept
    ran_later : (e : StartedGroup) → Has e v.started → RanMeans plan asked S start d (ran_at n e)
    ran_later e h = let k = entry_grows plan asked S start is c d i j g n (unrun e) (ov.groups.entries e h) in record { on = k.on; cells = k.cells }

    -- buffered groups of transactions that started whole are those that wait in the log
    buffered_ran : (ts : List TxnId) → ((t : TxnId) → Has t ts → IsWhole S c.past.started t) → ((t : TxnId) → Has t ts → ¬ IsListed is_txn (c.decided n) t)
        → map entry_run (all_buffered plan v.started ts) ≡ waiting_here S start.store c.past.ran n ts
    buffered_ran [] whole new = refl
    buffered_ran (t ∷ ts) whole new =
        let found = deciding.groups_found plan asked S start is laws c o.reached n v ov lists comps change in
        let first = buffered_runs plan asked S start is c n (λ t. IsListed is_txn (c.decided n) t) v.started found t (whole t (inl refl)) (new t (inl refl)) in
        let rest = buffered_ran ts (λ u h. whole u (inr h)) (λ u h. new u (inr h)) in
        map-append entry_run (buffered_here plan t v.started) (all_buffered plan v.started ts)
        ∙ ((λ i. first i ++ rest i)
        ∙ sym (filter-append (waits_here S start.store c.past.ran n) (all_groups S.behaviour t) (one_by_one S.behaviour ts)))

    runs_are : map entry_run (all_buffered plan v.started all) ≡ waiting_here S start.store c.past.ran n ts
    runs_are =
        ap (map entry_run) (buffered_some plan _ v.started all (deciding.again_nowhere plan asked S start is laws c o.reached n v ov lists comps change))
        ∙ buffered_ran ts (λ t h. deciding.is_whole plan asked S start is laws c o.reached n v ov lists comps change t (has_listed ts t h))
        (λ t h. (deciding.of_ts plan asked S start is laws c o.reached n v ov lists comps change t (has_listed ts t h)).0)

    -- ---- and what is over is forgotten

    pub changed_explained : (r : ServerStep) → r.state ≡ forget after → r.components ≡ comps → r.decided ≡ all → r.ran ≡ all_buffered plan v.started all
        → ((out : Outgoing) → Has out r.sends → Means plan asked S start d out.msg out.to) → KeepsState s v → IsExplained r
    changed_explained r state parts decided runs sends kept =
        record {
          log = d;
          steps = one_step_more no_steps (deciding.step plan asked S start is laws c o.reached n v ov lists comps change);
          means = server_means plan asked S start is c d i j g (deciding.reached_after plan asked S start is laws c o.reached n v ov lists comps change) w o n s r there
              (subst (ServerMeans plan asked S start d n) (sym state) (forget_means plan asked S start is d j called n after then_means))
              (λ k apart v2 h. server_elsewhere plan asked S start is c d i j g k (deciding.quiet_elsewhere plan asked S start is laws c o.reached n v ov lists comps change k apart) v2 (o.servers k v2 h))
              sends
              (ap (noted w.order) decided ∙ (noted-new w.order all change.new.taken.order.once ∙ (ap (λ l. l ++ new_in l all) o.order ∙ ap (λ l. c.order ++ l) (sym (new_in-less (c.decided n) c.order all (i.in_order n))))))
              refl;
          decides = deciding.decided_is plan asked S start is laws c o.reached n v ov lists comps change ∙ ap (λ l. c.decided n ++ new_in (c.decided n) l) (sym decided);
          components = subst (AreDecidedIn S start n d) (sym parts)
              (record {
                decided = λ k t h x. decided_then t (in_listed comps k t h x);
                mates = taking.new_mates plan asked S start is laws c o.reached n v ov lists comps change;
                whole = taking.new_whole plan asked S start is laws c o.reached n v ov lists comps change;
              });
          keeps =
              subst (KeepsTaken s r.state) (sym parts)
              (subst (λ z. KeepsTaken s z comps) (sym state) (keeps_changing plan s v lists comps all kept change.taken then_means.taken.one));
          starts_none = λ k h q b. b;
          elsewhere = λ m other. (deciding.quiet_elsewhere plan asked S start is laws c o.reached n v ov lists comps change m other).decided;
          answers = refl;
          began = λ q h. inl h;
          ran = ap (λ l. c.past.ran ++ l) (sym runs_are ∙ ap (map entry_run) (sym runs));
          each = λ e h. ran_later e (was_buffered plan v.started all e (subst (Has e) runs h));
        }
