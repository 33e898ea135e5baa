-- What comes of a message at a server
use Rattle.std.proofs.Common.{arith, ◌≡◌, ◌<◌, ◌&&◌, ℕ, ℤ, Bool, true, false, not, cond, nat_lt, List, [], ◌∷◌, ◌++◌, Option, Some, None, map, refl, sym, ap, subst, ◌∙◌, ◌⊎◌, inl, inr, append-nil}
use Rattle.std.proofs.lemmas.Bool.{false≢true, and_parts, not-true}
use Rattle.std.proofs.lemmas.Bool.Decides.{nat_tests}
use Rattle.std.specs.Prelude.{slice_get, filter, flat_map, if◌then◌else◌}
use Rattle.roc_sequence.specs.Lists.{Has}
use Rattle.roc_sequence.specs.Places.{IsListed, is_listed}
use Rattle.roc_sequence.proofs.Places.{listed_true}
use Rattle.roc_sequence.proofs.Found.{found_has}
use Rattle.roc_sequence.proofs.Members.{has_append, has_one, has_right, from_has_map, from_has_filter, from_has_flat_map}
use Rattle.roc_base.specs.declared.id.TxnId.{TxnId}
use Rattle.roc_base.specs.declared.node.Node.TheVariants.{Server}
use Rattle.roc_base.specs.declared.node.Shard.{Shard}
use Rattle.roc_base.specs.TxnId.{is_txn}
use Rattle.roc_base.specs.Equalities.{is_txn-true}
use Rattle.roc_base.specs.Edge.{Dependency}
use Rattle.roc_depgraph.specs.declared.known.KnownList.{KnownList}
use Rattle.roc_depgraph.specs.Deps.{list_of, is_known, IsKnown, IsDecided}
use Rattle.roc_step.specs.declared.waits.OpenFetch.{OpenFetch}
use Rattle.roc_step.specs.Waits.{was_asked_for, askers_of}
use Rattle.roc_msg.specs.declared.msg.Msg.{Msg}
use Rattle.roc_msg.specs.declared.msg.Msg.TheVariants.{Start, Commit, Fetch, Known, Ended, Settled, Read, ReadOk}
use Rattle.roc_msg.specs.declared.outbox.Outgoing.{Outgoing}
use Rattle.roc_msg.specs.declared.reason.Reason.TheVariants.{NotHere, Foreign}
use Rattle.roc_msg.specs.Facts.{is_fact_before}
use Rattle.roc_plan.specs.Groups.{Plan, is_immediate_of}
use Rattle.roc_whole.specs.Serial as whole
use Rattle.roc_group.specs.GroupRun.{call}
use Rattle.roc_law_orders.specs.Behaviour.{TxnGroup}
use Rattle.roc_law_log.specs.Scheme.{Scheme}
use Rattle.roc_law_log.specs.Log.{Log}
use Rattle.roc_law_log.specs.Settled.{IsSettled}
use Rattle.roc_law_log.specs.Steps.{no_steps, one_step_more}
use Rattle.roc_law_log.specs.Invariants.{LogInvariants, LogGrows}
use Rattle.roc_step.specs.declared.started.StartedGroup.{StartedGroup}
use Rattle.roc_step.specs.declared.handled.Handled.{Handled}
use Rattle.roc_step.specs.declared.handled.Handled.TheVariants.{Ignored, Gone}
use Rattle.roc_step.specs.Below.{is_ended, mark_of}
use Rattle.roc_step.specs.State.{refused, ignored, answered, is_group, is_here, find_group, ServerState, ServerStep, hearing}
use Rattle.roc_step.specs.Forgets.{forgetting}
use Rattle.roc_step.specs.Carried.{list_with, carried, unknown_of}
use Rattle.roc_step.specs.Asking.{known_to, knowns_for, fetch_from}
use Rattle.roc_step.specs.Links.{without_links}
use Rattle.roc_step.specs.New.{AreNewTaken}
use Rattle.roc_step.specs.Start.{is_immediate_group, start_refusal, start_taken, start_judged, startok_of, new_group, start_new}
use Rattle.roc_step.specs.Runs.{commitok_of}
use Rattle.roc_step.specs.Lists.{links_of, missing_after, lists_after, decides, taught, commit_refusal, after_commit, fetch_taken, settled_to, after_fetch, known_refusal, after_known, is_settled, lists_settled, after_settled}
use Rattle.roc_step.specs.Step.{Findings, AreFindings, unless_refused, after_message, Handles, tick_sends}
use Rattle.roc_law_protocol.specs.PlanAssumptions.{IsSchemeOf}
use Rattle.roc_law_protocol.specs.Beginnings.{Beginning}
use Rattle.roc_law_protocol.specs.World.{World, at_server}
use Rattle.roc_law_protocol.specs.Inner.Given.{LogLaws}
use Rattle.roc_law_protocol.proofs.Means.{IsOther, HasBegun, IsPast, IsForgotten, entry_run, Began, Means, ListMeans, AllMean, StartIs, AreGroupsHere, ServerMeans, WorldMeans, AreEnded}
use Rattle.roc_law_protocol.proofs.Gone.{IsGone, gone_same, gone_hears, gone_begins}
use Rattle.roc_law_protocol.proofs.Grows.{decided_grows}
use Rattle.roc_law_protocol.proofs.Changed.{server_means}
use Rattle.roc_law_protocol.proofs.Elsewhere.{server_elsewhere}
use Rattle.roc_law_protocol.proofs.Starting as starting
use Rattle.roc_law_protocol.proofs.Explains as explains
use Rattle.roc_law_protocol.proofs.Explains.{IsExplained}
use Rattle.roc_law_protocol.proofs.Teaching.{taught_change, settled_change, missing_begun}
use Rattle.roc_law_protocol.proofs.Marks.{ended_cases}
use Rattle.roc_law_protocol.proofs.Taking.{starts_here, commits_here}
use Rattle.roc_law_protocol.proofs.TakesOn.{none_decided}
use Rattle.roc_law_protocol.proofs.SaidOfServers.{begun_here}
use Rattle.roc_law_protocol.proofs.OneGroupMore.{here_more}
use Rattle.roc_law_protocol.proofs.KeepsTaken.{KeepsTaken, state_itself, state_hearing, keeps_still}

-- a list that is found is among the known ones
pub list_has : (known : List KnownList) (id : TxnId) (edges : List Dependency) → list_of id known ≡ Some edges → (k : KnownList) × Has k known × (k.of ≡ id) × (k.edges ≡ edges)
list_has [] id edges h = absurd (cc)
list_has (k ∷ known) id edges h = go (is_txn k.of id) refl h (list_has known id edges)
  where
    go : (b : Bool) → is_txn k.of id ≡ b → cond b (Some k.edges) (list_of id known) ≡ Some edges → (list_of id known ≡ Some edges → (k : KnownList) × Has k known × (k.of ≡ id) × (k.edges ≡ edges)) → (j : KnownList) × Has j (k ∷ known) × (j.of ≡ id) × (j.edges ≡ edges)
    go true e m ih = (k, inl refl, is_txn-true k.of id e, cc)
    go false e m ih = let r = ih m in (r.0, inr r.1, r.2, r.3)

-- of what a start is; and nothing is of a view
abbrev pub StartsAre : (TxnId → Type 0) → Msg → Type 0
StartsAre Of (Start id proc group args inputs) = Of id
StartsAre Of (Read id round proc group args) = ⊥
StartsAre Of (ReadOk id round group shard versions outs) = ⊥
StartsAre Of msg = Unit {0}

module _ (plan : Plan) (asked : TxnId → whole.Call) (S : Scheme) (start : Beginning) (is : IsSchemeOf plan asked S) (laws : LogLaws S start.store) (c : Log) (w : World) (o : WorldMeans plan asked S start c w) (n : ℕ) (s : ServerState) (there : slice_get w.servers n ≡ Some s) (Fresh : TxnId → Type 0) (called : (r : TxnGroup) → Began plan asked S start c r → ¬ IsOther asked start r.txn) where
  abbrev Explained : ServerStep → Type 0
  Explained r = IsExplained plan asked S start is laws c w o n s there Fresh called r

  mine : ServerMeans plan asked S start c n s
  mine = o.servers n s there

  i : LogInvariants S start.store c
  i = laws.holds c o.reached

  -- it does nothing
  still : (r : ServerStep) → ServerMeans plan asked S start c n r.state → ((out : Outgoing) → Has out r.sends → Means plan asked S start c out.msg out.to) → KeepsTaken s r.state [] → r.components ≡ [] → r.decided ≡ [] → r.ran ≡ [] → Explained r
  still r = explains.still plan asked S start is laws c w o n s there Fresh called r

  kept_all : KeepsTaken s s []
  kept_all = keeps_still s s (state_itself s) refl mine.taken.one

  refuses : (answer : Handled) → Explained (refused s answer)
  refuses answer = explains.refuses plan asked S start is laws c w o n s there Fresh called mine answer

  -- ---- a state with the same groups and watermarks, and one with others

  forgotten_in : (z : ServerState) → ((t : TxnId) → IsGone s t → IsGone z t) → (t : TxnId) → IsDecided s.lists.links t ⊎ IsForgotten plan asked S start c s t → IsDecided s.lists.links t ⊎ IsForgotten plan asked S start c z t
  forgotten_in z stay t (inl k) = inl k
  forgotten_in z stay t (inr f) = inr (record { gone = stay t f.gone; settled = f.settled })

  groups_in : (z : ServerState) → ((t : TxnId) → IsGone s t → IsGone z t) → AreGroupsHere plan asked S start c n (IsGone z) s.started
  groups_in z stay = record { entries = mine.groups.entries; finds = λ r b p. elim (mine.groups.finds r b p) [ inl f ↦ inl f | inr gone ↦ inr (stay r.txn gone) ] }

  -- a watermark is heard
  hears : (coord mark : ℕ) → AreEnded plan asked S start c coord mark → ServerMeans plan asked S start c n (hearing s coord mark)
  hears coord mark m =
      record {
        number = mine.number;
        groups = groups_in (hearing s coord mark) (gone_hears s coord mark);
        part = mine.part;
        known = mine.known;
        links = mine.links;
        decided = λ t h. forgotten_in (hearing s coord mark) (gone_hears s coord mark) t (mine.decided t h);
        back = mine.back;
        forgot = λ t h gone. elim (begun_here plan asked S start c n s mine t h) [ inl here ↦ absurd (false≢true (sym gone.nowhere ∙ here)) | inr was ↦ mine.forgot t h was ];
        taken = record { decided = mine.taken.decided; all = mine.taken.all; one = mine.taken.one; mates = mine.taken.mates; whole = mine.taken.whole; order = mine.taken.order };
        follows = mine.follows;
        fetched = mine.fetched;
        ended = λ t h. elim (ended_cases s.below coord mark t h) [ inl k ↦ mine.ended t k | inr k ↦ subst (IsPast plan asked S start c) (λ i. record { coord = sym k.0 i; seq = t.seq }) (m t.seq k.1) ];
      }

  -- one more waits for a list
  waits : (id : TxnId) (asker : Shard) → ServerMeans plan asked S start c n (fetch_taken s id asker None).state
  waits id asker =
      let z = (fetch_taken s id asker None).state in
      record {
        number = mine.number;
        groups = groups_in z (λ t. gone_same s z t refl refl);
        part = mine.part;
        known = mine.known;
        links = mine.links;
        decided = λ t h. forgotten_in z (λ t. gone_same s z t refl refl) t (mine.decided t h);
        back = mine.back;
        forgot = λ t h gone. mine.forgot t h (gone_same z s t refl refl gone);
        taken = record { decided = mine.taken.decided; all = mine.taken.all; one = mine.taken.one; mates = mine.taken.mates; whole = mine.taken.whole; order = mine.taken.order };
        follows = mine.follows;
        fetched = mine.fetched;
        ended = mine.ended;
      }

  -- ---- a start

  startok_means : (e : StartedGroup) → Has e s.started → (out : Outgoing) → Has out (startok_of s.shard e ∷ []) → Means plan asked S start c out.msg out.to
  startok_means e h out k =
      let m = mine.groups.entries e h in
      subst (λ (out : Outgoing). Means plan asked S start c out.msg out.to) (sym (has_one out (startok_of s.shard e) k)) (m.told, mine.number ∙ sym m.on, refl)

  module _ (f : Findings) (id : TxnId) (proc group : ℕ) (args inputs : List ℤ) (found : AreFindings plan s (Start id proc group args inputs) f) (m : StartIs plan asked S start c id proc group args inputs (Server (record { 0 = n }))) (fresh : Fresh id) where
    led : (u : TxnId) → IsListed is_txn f.reached u → IsKnown s.lists.links u
    led u h = (found.reached.sound u h).0

    module _ (none : find_group id group s.started ≡ None) (kept : ¬ IsGone s id) where
      abbrev d : Log
      d = starting.d plan asked S start is laws c o.reached n s mine id proc group args inputs m none kept f.before f.reached found.before.sound found.before.complete led

      abbrev e : StartedGroup
      e = new_group plan f.before f.reached s id (call proc group args inputs)

      j : LogInvariants S start.store d
      j = starting.j plan asked S start is laws c o.reached n s mine id proc group args inputs m none kept f.before f.reached found.before.sound found.before.complete led

      g : LogGrows S start.store c d
      g = starting.g plan asked S start is laws c o.reached n s mine id proc group args inputs m none kept f.before f.reached found.before.sound found.before.complete led

      means_then : ServerMeans plan asked S start d n (start_new plan s (call proc group args inputs) e).state
      means_then = starting.server_start plan asked S start is laws c o.reached n s mine id proc group args inputs m none kept f.before f.reached found.before.sound found.before.complete led

      started_explained : Explained (start_new plan s (call proc group args inputs) e)
      started_explained =
          record {
            log = d;
            steps = one_step_more no_steps (starting.step plan asked S start is laws c o.reached n s mine id proc group args inputs m none kept f.before f.reached found.before.sound found.before.complete led);
            means = server_means plan asked S start is c d i j g
                (starting.reached_after plan asked S start is laws c o.reached n s mine id proc group args inputs m none kept f.before f.reached found.before.sound found.before.complete led)
                w o n s (start_new plan s (call proc group args inputs) e) there
                means_then
                (λ k apart v h. server_elsewhere plan asked S start is c d i j g k (starting.quiet_elsewhere plan asked S start is laws c o.reached n s mine id proc group args inputs m none kept f.before f.reached found.before.sound found.before.complete led k apart) v (o.servers k v h))
                (λ out h. subst (λ (out : Outgoing). Means plan asked S start d out.msg out.to) (sym (has_one out (startok_of s.shard e) h)) (
                  starting.told_start plan asked S start is laws c o.reached n s mine id proc group args inputs m none kept f.before f.reached found.before.sound found.before.complete led,
                  mine.number ∙ sym (starting.place_new plan asked S start is laws c o.reached n s mine id proc group args inputs m none kept f.before f.reached found.before.sound found.before.complete led),
                  refl,
                ))
                o.order refl;
            decides = sym (append-nil (c.decided n));
            components = none_decided S start n d;
            keeps = keeps_still s (start_new plan s (call proc group args inputs) e).state
                (record {
                  taken = refl;
                  marks = λ t h. h;
                  here = here_more s.started e;
                  gone = λ t. gone_begins s (start_new plan s (call proc group args inputs) e).state e kept t refl refl;
                })
                refl mine.taken.one;
            starts_none = λ k h. absurd h;
            elsewhere = λ m other. refl;
            answers = refl;
            began = λ q h. elim (starting.begun_cases plan asked S start is laws c o.reached n s mine id proc group args inputs m none kept f.before f.reached found.before.sound found.before.complete led q h) [ inl k ↦ inl k | inr k ↦ inr (subst (λ (q : TxnGroup). Fresh q.txn) (sym k) fresh) ];
            ran = runs (is_immediate_group plan (call proc group args inputs)) refl;
            each = λ q h. (let k = means_then.groups.entries q (new_one q (is_immediate_group plan (call proc group args inputs)) h) in record { on = k.on; cells = k.cells });
          }
        where
          class : S.is_immediate (entry_run e) ≡ is_immediate_group plan (call proc group args inputs)
          class = is.immediate (entry_run e) ∙ ap (λ p. is_immediate_of plan p group) (sym m.proc)

          runs : (b : Bool) → is_immediate_group plan (call proc group args inputs) ≡ b → d.past.ran ≡ c.past.ran ++ map entry_run (if b then e ∷ [] else [])
          runs true b = ap (λ b. c.past.ran ++ (if b then entry_run e ∷ [] else [])) (class ∙ b)
          runs false b = ap (λ b. c.past.ran ++ (if b then entry_run e ∷ [] else [])) (class ∙ b)

          new_one : (q : StartedGroup) (b : Bool) → Has q (if b then e ∷ [] else []) → Has q (s.started ++ e ∷ [])
          new_one q true h = has_right q s.started (e ∷ []) h
          new_one q false h = absurd h

    start_explained : Explained (start_judged plan f.before f.reached s id (call proc group args inputs) (start_refusal plan s id (call proc group args inputs)))
    start_explained = judged (start_refusal plan s id (call proc group args inputs)) refl
      where
        taken : start_refusal plan s id (call proc group args inputs) ≡ None → (x : Option StartedGroup) → find_group id group s.started ≡ x → Explained (start_taken plan f.before f.reached s id (call proc group args inputs) x)
        taken passed (Some e) k = still (answered s (startok_of s.shard e ∷ [])) mine (startok_means e (found_has (is_group id group) s.started e k).0) kept_all refl refl refl
        taken passed None k = started_explained k (starts_here plan s id (call proc group args inputs) passed k)

        judged : (x : Option Handled) → start_refusal plan s id (call proc group args inputs) ≡ x → Explained (start_judged plan f.before f.reached s id (call proc group args inputs) x)
        judged (Some answer) k = refuses answer
        judged None k = taken k (find_group id group s.started) refl

  -- ---- lists that are taught

  module _ (news : List KnownList) (lists : AllMean plan asked S start c news) (comps : List (List TxnId)) (new : AreNewTaken (IsDecided s.lists.links) (s.lists.links ++ links_of s news) comps) where
    abbrev d2 : Log
    d2 = explains.d plan asked S start is laws c w o n s there Fresh called s mine (lists_after s news comps) comps (taught_change plan asked S start laws c i n s mine news lists comps new)

    taught_mean : (out : Outgoing) → Has out (taught plan s news comps).sends → Means plan asked S start d2 out.msg out.to
    taught_mean =
        explains.sends_mean plan asked S start is laws c w o n s there Fresh called s mine (lists_after s news comps) comps (taught_change plan asked S start laws c i n s mine news lists comps new)
        (flat_map (knowns_for s.lists.waiting.askers) news) (map (fetch_from s.shard) (missing_after s news))
        (λ out k.
        let p = from_has_flat_map (knowns_for s.lists.waiting.askers) out news k in
        let q = from_has_map (known_to p.0) out (askers_of p.0.of s.lists.waiting.askers) p.2 in
        subst (λ (out : Outgoing). Means plan asked S start c out.msg out.to) (sym q.2) (lists p.0 p.1, tt))
        (λ out k.
        let q = from_has_map (fetch_from s.shard) out (missing_after s news) k in
        subst (λ (out : Outgoing). Means plan asked S start c out.msg out.to) (sym q.2) (missing_begun plan asked S start laws c i n s mine news lists comps new q.0 q.1))

    -- and what is sent besides means what the log says then
    taught_explained : (more : List Outgoing) → ((out : Outgoing) → Has out more → Means plan asked S start d2 out.msg out.to)
        → Explained (forgetting (record (taught plan s news comps) { sends = (taught plan s news comps).sends ++ more }))
    taught_explained more means =
        explains.changed_explained plan asked S start is laws c w o n s there Fresh called s mine (lists_after s news comps) comps (taught_change plan asked S start laws c i n s mine news lists comps new)
        (forgetting (record (taught plan s news comps) { sends = (taught plan s news comps).sends ++ more })) refl refl refl refl
        (λ out h. elim (has_append out (taught plan s news comps).sends more h) [ inl k ↦ taught_mean out k | inr k ↦ means out k ]) (state_itself s)

  commit_explained : (f : Findings) (id : TxnId) (edges : List Dependency) (facts : List KnownList) → AreFindings plan s (Commit id edges facts) f → AllMean plan asked S start c (list_with id edges ∷ facts) → Explained (after_commit plan f.before f.components s id edges facts (commit_refusal s id edges facts))
  commit_explained f id edges facts found m = judged (commit_refusal s id edges facts) refl found.components
    where
      news : List KnownList
      news = unknown_of s.lists.known (carried id edges facts)

      from_carried : (k : KnownList) → Has k (carried id edges facts) → Has k (list_with id edges ∷ facts)
      from_carried k h = elim (has_append k (filter (λ x. is_fact_before x (list_with id edges)) facts) (list_with id edges ∷ filter (λ x. is_fact_before (list_with id edges) x) facts) h) [
        | inl a ↦ inr (from_has_filter (λ x. is_fact_before x (list_with id edges)) k facts a).0
        | inr b ↦ elim b [ inl e ↦ inl e | inr a ↦ inr (from_has_filter (λ x. is_fact_before (list_with id edges) x) k facts a).0 ]
      ]

      lists : AllMean plan asked S start c news
      lists k h = m k (from_carried k (from_has_filter (λ k. not (is_known s.lists.known k.of)) k (carried id edges facts) h).0)

      judged : (x : Option Handled) → commit_refusal s id edges facts ≡ x → AreNewTaken (IsDecided s.lists.links) (s.lists.links ++ links_of s (unless_refused x news)) f.components → Explained (after_commit plan f.before f.components s id edges facts x)
      judged (Some answer) passed new = refuses answer
      judged None passed new =
          taught_explained news lists f.components new (if is_listed is_txn f.before id then commitok_of plan (taught plan s news f.components).state id ∷ [] else [])
          (λ out k. again out (is_listed is_txn f.before id) refl k)
        where
          again : (out : Outgoing) (b : Bool) → is_listed is_txn f.before id ≡ b → Has out (cond b (commitok_of plan (taught plan s news f.components).state id ∷ []) []) → Means plan asked S start (d2 news lists f.components new) out.msg out.to
          again out true e k =
              let change = taught_change plan asked S start laws c i n s mine news lists f.components new in
              let decided = decided_grows plan asked S start is c (d2 news lists f.components new) i (explains.j plan asked S start is laws c w o n s there Fresh called s mine (lists_after s news f.components) f.components change) (explains.g plan asked S start is laws c w o n s there Fresh called s mine (lists_after s news f.components) f.components change) n id (mine.back id (found.before.sound id (listed_true is_txn f.before id e))) in
              subst (λ (out : Outgoing). Means plan asked S start (d2 news lists f.components new) out.msg out.to) (sym (has_one out (commitok_of plan (taught plan s news f.components).state id) k))
              (explains.commitok_means plan asked S start is laws c w o n s there Fresh called s mine (lists_after s news f.components) f.components change id (commits_here s id edges facts passed) decided)
          again out false e k = absurd k

  -- ---- a fetch

  fetch_explained : (id : TxnId) (asker : Shard) → HasBegun plan asked S start c id n → Explained (after_fetch s id asker)
  fetch_explained id asker begun = ended (not (is_here id s.started) && is_ended s.below id) refl
    where
      taken : (x : Option (List Dependency)) → list_of id s.lists.known ≡ x → Explained (fetch_taken s id asker x)
      taken (Some edges) e =
          let k = list_has s.lists.known id edges e in
          still (answered s (known_to (list_with id edges) (record { id = id; shard = asker }) ∷ [])) mine
          (λ out h. subst (λ (out : Outgoing). Means plan asked S start c out.msg out.to) (sym (has_one out (known_to (list_with id edges) (record { id = id; shard = asker })) h)) (subst (λ es. ListMeans plan asked S start c id es) k.3 (subst (λ t. ListMeans plan asked S start c t k.0.edges) k.2 (mine.known k.0 k.1)), tt))
          kept_all refl refl refl
      taken None e = still (fetch_taken s id asker None) (waits id asker) (λ out h. absurd h) (keeps_still s (fetch_taken s id asker None).state (record { taken = refl; marks = λ t h. h; here = λ t h. h; gone = λ t. gone_same s (fetch_taken s id asker None).state t refl refl }) refl mine.taken.one) refl refl refl

      here : (b : Bool) → Explained (if b then fetch_taken s id asker (list_of id s.lists.known) else ignored s NotHere)
      here true = taken (list_of id s.lists.known) refl
      here false = refuses (Ignored NotHere)

      -- nobody has to wait for it, and all below the watermark is past
      settled : not (is_here id s.started) ≡ true → is_ended s.below id ≡ true → IsSettled S start.store c id × AreEnded plan asked S start c id.coord (mark_of s.below id.coord)
      settled away late = (
        (mine.forgot id begun (record { nowhere = not-true (is_here id s.started) away; ended = late })).1,
        λ q l. mine.ended (record { coord = id.coord; seq = q }) (below q (mark_of s.below id.coord) l),
      )
        where
          below : (q mark : ℕ) → q < mark → nat_lt q mark ≡ true
          below q mark l = grind (arith, nat_tests)

      ended : (b : Bool) → not (is_here id s.started) && is_ended s.below id ≡ b
          → Explained (if b then answered s (settled_to s id asker ∷ []) else (if is_here id s.started then fetch_taken s id asker (list_of id s.lists.known) else ignored s NotHere))
      ended true e =
          let p = and_parts (not (is_here id s.started)) (is_ended s.below id) e in
          let k = settled p.0 p.1 in
          still (answered s (settled_to s id asker ∷ [])) mine (λ out h. subst (λ (out : Outgoing). Means plan asked S start c out.msg out.to) (sym (has_one out (settled_to s id asker) h)) (k.0, k.1, tt)) kept_all refl refl refl
      ended false e = here (is_here id s.started)

  -- ---- what answers a fetch

  known_explained : (f : Findings) (id : TxnId) (edges : List Dependency) → AreFindings plan s (Known id edges) f → ListMeans plan asked S start c id edges → Explained (after_known plan f.components s id edges (known_refusal s id edges))
  known_explained f id edges found m = judged (known_refusal s id edges) found.components
    where
      news : List KnownList
      news = unknown_of s.lists.known (list_with id edges ∷ [])

      lists : AllMean plan asked S start c news
      lists k h = subst (λ (k : KnownList). ListMeans plan asked S start c k.of k.edges) (sym (has_one k (list_with id edges) (from_has_filter (λ k. not (is_known s.lists.known k.of)) k (list_with id edges ∷ []) h).0)) m

      judged : (x : Option Handled) → AreNewTaken (IsDecided s.lists.links) (s.lists.links ++ links_of s (unless_refused x news)) f.components → Explained (after_known plan f.components s id edges x)
      judged (Some answer) new = refuses answer
      judged None new =
          explains.changed_explained plan asked S start is laws c w o n s there Fresh called s mine (lists_after s news f.components) f.components (taught_change plan asked S start laws c i n s mine news lists f.components new)
          (forgetting (taught plan s news f.components)) refl refl refl refl (taught_mean news lists f.components new) (state_itself s)

  settled_explained : (f : Findings) (id : TxnId) (mark : ℕ) → AreFindings plan s (Settled id mark) f → IsSettled S start.store c id → AreEnded plan asked S start c id.coord mark → Explained (after_settled plan f.components s id mark)
  settled_explained f id mark found settled past = asked_for (was_asked_for id s.lists.waiting.asked) found.components
    where
      heard : ServerMeans plan asked S start c n (hearing s id.coord mark)
      heard = hears id.coord mark past

      asked_for : (b : Bool) → AreNewTaken (IsDecided s.lists.links) (if b then map (without_links (is_settled s id mark)) s.lists.links else s.lists.links) f.components
          → Explained (forgetting (if b then decides plan (hearing s id.coord mark) (lists_settled s id mark f.components) f.components [] [] else refused (hearing s id.coord mark) Gone))
      asked_for true new =
          let change = settled_change plan asked S start laws c i n s id mark heard settled f.components new in
          explains.changed_explained plan asked S start is laws c w o n s there Fresh called (hearing s id.coord mark) heard (lists_settled s id mark f.components) f.components change
          (forgetting (decides plan (hearing s id.coord mark) (lists_settled s id mark f.components) f.components [] [])) refl refl refl refl
          (explains.sends_mean plan asked S start is laws c w o n s there Fresh called (hearing s id.coord mark) heard (lists_settled s id mark f.components) f.components change [] [] (λ out h. absurd h) (λ out h. absurd h)) (state_hearing s id.coord mark)
      asked_for false new = explains.forgets_still plan asked S start is laws c w o n s there Fresh called (refused (hearing s id.coord mark) Gone) heard (λ out h. absurd h) (state_hearing s id.coord mark) refl refl refl

  -- ---- any message

  pub message_explained : (msg : Msg) (r : ServerStep) → Handles plan s msg r → Means plan asked S start c msg (Server (record { 0 = n })) → StartsAre Fresh msg → Explained r
  message_explained msg r h m k = subst Explained (sym h.is) (go msg h.findings h.found m k)
    where
      go : (msg : Msg) (f : Findings) → AreFindings plan s msg f → Means plan asked S start c msg (Server (record { 0 = n })) → StartsAre Fresh msg → Explained (after_message plan s f msg)
      go (Start id proc group args inputs) f found m k = start_explained f id proc group args inputs found m k
      go (Commit id edges facts) f found m k = commit_explained f id edges facts found m.0
      go (Fetch id asker) f found m k = fetch_explained id asker m
      go (Known id edges) f found m k = known_explained f id edges found m.0
      go (Ended coord mark) f found m k = explains.forgets_still plan asked S start is laws c w o n s there Fresh called (answered (hearing s coord mark) []) (hears coord mark m.0) (λ out h. absurd h) (state_hearing s coord mark) refl refl refl
      go (Settled id mark) f found m k = settled_explained f id mark found m.0 m.1
      go (Read id round proc group args) f found m k = absurd m
      go msg f found m k = refuses (Ignored Foreign)

  tick_means : (out : Outgoing) → Has out (tick_sends s) → Means plan asked S start c out.msg out.to
  tick_means out h =
      let q = from_has_map (fetch_from s.shard) out (filter (λ (a : OpenFetch). not (is_known s.lists.known a.id)) s.lists.waiting.asked) h in
      subst (λ (out : Outgoing). Means plan asked S start c out.msg out.to) (sym q.2) (mine.fetched q.0 (from_has_filter (λ (a : OpenFetch). not (is_known s.lists.known a.id)) q.0 s.lists.waiting.asked q.1).0)

  -- a tick is no step of the log
  pub tick_still : WorldMeans plan asked S start c (at_server w n (answered s (tick_sends s)))
  tick_still = server_means plan asked S start is c c i i (laws.grows c c i no_steps) o.reached w o n s (answered s (tick_sends s)) there mine (λ m apart v h. o.servers m v h) tick_means o.order refl

  pub tick_explained : Explained (answered s (tick_sends s))
  tick_explained =
      still (answered s (tick_sends s)) mine
      tick_means
      kept_all refl refl refl
