-- A coordinator ignores only what is stale
use Rattle.std.proofs.Common.{◌≡◌, ℕ, ℤ, ◌<◌, ◌==◌, Bool, true, false, not, ◌&&◌, List, Option, Some, None, length, refl, sym, ap, subst, ◌∙◌, inl, inr, is_some}
use Rattle.std.proofs.lemmas.Bool.{false≢true, and_parts, and_from, eq-eqb, eqb-true}
use Rattle.std.proofs.lemmas.List.{length-map}
use Rattle.std.specs.Prelude.{slice_get, filter, if◌then◌else◌}
use Rattle.std.specs.List.{range_with_len}
use Rattle.roc_sequence.specs.Lists.{Has}
use Rattle.roc_sequence.proofs.Holds.{any_has, has_any}
use Rattle.roc_sequence.proofs.Found.{found_has}
use Rattle.roc_base.specs.declared.id.TxnId.{TxnId}
use Rattle.roc_base.specs.declared.node.Node.{Node}
use Rattle.roc_base.specs.declared.node.Node.TheVariants.{Server, Coord}
use Rattle.roc_base.specs.declared.node.Shard.{Shard}
use Rattle.roc_base.specs.TxnId.{is_txn}
use Rattle.roc_base.specs.Equalities.{is_txn-true}
use Rattle.roc_base.specs.Edge.{Dependency}
use Rattle.roc_program.specs.Values.{value_of_name}
use Rattle.roc_depgraph.specs.Deps.{IsDecided}
use Rattle.roc_depgraph.specs.declared.known.KnownList.{KnownList}
use Rattle.roc_msg.specs.declared.msg.Msg.{Msg}
use Rattle.roc_msg.specs.declared.msg.Msg.TheVariants.{Start, StartOk, Commit, CommitOk, Known, Ended, Settled}
use Rattle.roc_msg.specs.declared.msg.Envelope.{Envelope}
use Rattle.roc_msg.specs.declared.reason.Reason.{Reason}
use Rattle.roc_msg.specs.declared.reason.Reason.TheVariants.{Stale, Unfit}
use Rattle.roc_plan.specs.Groups.{Plan, groups_of, bound_of, outs_of, is_immediate_of}
use Rattle.roc_whole.specs.Serial as whole
use Rattle.roc_group.specs.GroupRun.{group_run}
use Rattle.roc_law_orders.specs.Behaviour.{TxnGroup, Yield}
use Rattle.roc_law_orders.specs.Runs.{inputs_at, first_stage, after_groups, groups_before}
use Rattle.roc_law_orders.proofs.Stages.{yielded_at}
use Rattle.roc_law_log.specs.Scheme.{Scheme}
use Rattle.roc_law_log.specs.Log.{Log}
use Rattle.roc_law_log.specs.Invariants.{LogInvariants}
use Rattle.roc_step.specs.declared.started.StartedGroup.{StartedGroup}
use Rattle.roc_step.specs.State.{is_group, is_here, ServerState}
use Rattle.roc_coord.specs.declared.handled.Handled.TheVariants.{Ignored}
use Rattle.roc_coord.specs.declared.transaction.Transaction.{Transaction}
use Rattle.roc_coord.specs.declared.transaction.SentStart.{SentStart}
use Rattle.roc_coord.specs.State.{find_transaction, find_startok, was_asked, has_commitok, CoordState, find_view}
use Rattle.roc_coord.specs.Starts.{all_started, shards_of, bound_count, out_count}
use Rattle.roc_coord.specs.Commits.{places_on}
use Rattle.roc_coord.specs.Step.{unless_refused, is_fit_startok, with_startok, startok_taken, after_startok, is_asked, is_fit_commitok, with_commitok, reply_now, commitok_taken, after_commitok, after_message, unasked}
use Rattle.roc_law_protocol.specs.PlanAssumptions.{called, IsSchemeOf}
use Rattle.roc_law_protocol.specs.Beginnings.{Beginning}
use Rattle.roc_law_protocol.specs.World.{World}
use Rattle.roc_law_protocol.specs.Inner.Given.{LogLaws}
use Rattle.roc_law_protocol.proofs.Means.{run_of, Ran, stage, Means, DoneMeans, TxnMeans, waits_at}
use Rattle.roc_law_protocol.proofs.Facts.{known_has}
use Rattle.roc_law_protocol.proofs.Replies.{count_given, places_are, counts_at, lengths_of_flat, few_place, shard_listed}
use Rattle.roc_law_protocol.proofs.Networks.{IsToldHere, IsNetworked}
use Rattle.roc_law_protocol.proofs.Pending.{AnsweredAreDone, AskedBy, IsWholeAt, IsPending}
use Rattle.roc_law_protocol.proofs.Logged.{IsLogged, ordered_submitted}
use Rattle.roc_step.proofs.SameIds.{known_alike}
use Rattle.roc_law_protocol.proofs.Gone.{IsGone}
use Rattle.roc_coord.specs.Ids.{view_ids}
use Rattle.roc_readonly.specs.declared.view.View.{View}
use Rattle.roc_audit.specs.History.{WasSubmitted}
use Rattle.roc_sequence.proofs.Members.{has_map}
use Rattle.roc_sequence.specs.Places.{IsListed}

module _ (plan : Plan) (asked : TxnId → whole.Call) (S : Scheme) (start : Beginning) (is : IsSchemeOf plan asked S) (laws : LogLaws S start.store) (w : World) (log : Log) (l : IsLogged plan asked S start is laws w log) (nw : IsNetworked plan asked S start is laws w) (o : IsPending plan w) (done_with : AnsweredAreDone w) (n : ℕ) (s : CoordState) (there : slice_get w.coords n ≡ Some s) where
  i : LogInvariants S start.store log
  i = laws.holds log l.means.reached

  -- what ran bound as many values as it binds names
  count_bound : (r : TxnGroup) → Ran plan asked S start log r → length ((stage plan asked S start log).yielded r).bound ≡ length (bound_of plan (asked r.txn).procedure r.group)
  count_bound r h =
      let before = after_groups S.behaviour (first_stage start.store) (groups_before r log.past.ran) in
      let given = inputs_at S.behaviour before r in
      ap (λ (y : Yield). length y.bound) (yielded_at S.behaviour log.past.ran (first_stage start.store) r i.ran_once h)
      ∙ (ap (λ (y : Yield). length y.bound) (is.yields r given before.store)
      ∙ length-map (bound_of plan (asked r.txn).procedure r.group) (value_of_name (group_run plan (called plan asked r given) before.store).environment))

  -- who is pending is gone nowhere, since who is gone was answered
  not_gone : (x : Transaction) → slice_get w.coords x.id.coord ≡ Some s → Has x s.pending → (m : ℕ) (v : ServerState) → slice_get w.servers m ≡ Some v → ¬ IsGone v x.id
  not_gone x at pending m v there gone =
      elim ((l.means.servers m v there).ended x.id gone.ended) [
        | inl k ↦ (let a = (l.means.answers x.id).0 k in done_with x.id a.0 a.1 s x at pending refl)
        | inr other ↦ absurd (l.called x.id (l.pending x.id.coord s at x pending) other)
      ]

  -- ---- a startok

  module _ (m : Envelope) (has : Has m w.sent) (to : m.to ≡ Coord n) (id : TxnId) (g : ℕ) (shard : Shard) (bound outs : List ℤ) (edges : List Dependency) (facts : List KnownList) (msg : m.msg ≡ StartOk id g shard bound outs edges facts) (x : Transaction) (pending : Has x s.pending) (same : x.id ≡ id) where
    means : Means plan asked S start log (StartOk id g shard bound outs edges facts) m.to
    means = subst (λ msg. Means plan asked S start log msg m.to) msg (l.means.messages m has)

    mine : TxnMeans plan asked S start log x
    mine = (l.means.coords n s there).pending x pending

    at : slice_get w.coords id.coord ≡ Some s
    at = subst (λ m. slice_get w.coords m ≡ Some s) (ap number (sym to ∙ means.2)) there
      where
        number : Node → ℕ
        number (Server shard) = 0
        number (Coord n) = n

    was : was_asked x g shard ≡ true
    was =
        let h = subst (IsToldHere w.servers) msg (nw.told m has) in
        elim h.2 [
          | inl e ↦
              (let f = found_has (is_group id g) h.0.started e.0 e.1 in
              let p = and_parts (is_txn e.0.id id) (e.0.group == g) f.1 in
              let k = (o.servers shard.0 h.0 h.1).groups e.0 f.0 in
              (subst (λ t. AskedBy w.coords t g shard.0) (is_txn-true e.0.id id p.0) (subst (λ g. AskedBy w.coords e.0.id g shard.0) (eqb-true e.0.group g p.1) k)) s x at pending same)
          | inr gone ↦ absurd (not_gone x (subst (λ t. slice_get w.coords t.coord ≡ Some s) (sym same) at) pending shard.0 h.0 h.1 (subst (IsGone h.0) (sym same) gone))
        ]

    proc : x.proc ≡ (asked id).procedure
    proc = mine.proc ∙ ap (λ t. (asked t).procedure) same

    counted : (length bound ≡ bound_count plan x.proc g) × (length outs ≡ out_count plan x.proc g)
    counted = subst (λ p. (length bound ≡ bound_count plan p g) × (length outs ≡ out_count plan p g)) (sym proc) (go (is_immediate_of plan (asked id).procedure g) (is.immediate (run_of id g)))
      where
        go : (b : Bool) → S.is_immediate (run_of id g) ≡ b
            → (length bound ≡ (if b then length (bound_of plan (asked id).procedure g) else 0)) × (length outs ≡ (if b then length (outs_of plan (asked id).procedure g) else 0))
        go true e =
            let ran = i.now_ran (run_of id g) means.0.began e in
            (ap length (means.0.bound_now e) ∙ count_bound (run_of id g) ran, ap length (means.0.outs_now e) ∙ count_given plan asked S start is log i (run_of id g) ran)
        go false e = (ap length (means.0.bound_later e), ap length (means.0.outs_later e))

    startok_fit : is_fit_startok plan x (record { group = g; bound = bound; outs = outs; edges = edges; facts = facts }) shard ≡ true
    startok_fit =
        and_from (was_asked x g shard && length bound == bound_count plan x.proc g) (length outs == out_count plan x.proc g)
        (and_from (was_asked x g shard) (length bound == bound_count plan x.proc g) was (eq-eqb (length bound) (bound_count plan x.proc g) counted.0))
        (eq-eqb (length outs) (out_count plan x.proc g) counted.1)

  -- ---- a commitok

  module _ (m : Envelope) (has : Has m w.sent) (to : m.to ≡ Coord n) (id : TxnId) (shard : Shard) (outs : List ℤ) (msg : m.msg ≡ CommitOk id shard outs) (x : Transaction) (pending : Has x s.pending) (same : x.id ≡ id) where
    done : Means plan asked S start log (CommitOk id shard outs) m.to
    done = subst (λ msg. Means plan asked S start log msg m.to) msg (l.means.messages m has)

    held : TxnMeans plan asked S start log x
    held = (l.means.coords n s there).pending x pending

    found_at : slice_get w.coords id.coord ≡ Some s
    found_at = subst (λ m. slice_get w.coords m ≡ Some s) (ap number (sym to ∙ done.1)) there
      where
        number : Node → ℕ
        number (Server shard) = 0
        number (Coord n) = n

    gone_nowhere : (v : ServerState) → slice_get w.servers shard.0 ≡ Some v → ¬ IsGone v id
    gone_nowhere v at gone = not_gone x (subst (λ t. slice_get w.coords t.coord ≡ Some s) (sym same) found_at) pending shard.0 v at (subst (IsGone v) (sym same) gone)

    from : (v : ServerState) × (slice_get w.servers shard.0 ≡ Some v) × (is_here id v.started ≡ true)
    from = let h = subst (IsToldHere w.servers) msg (nw.told m has) in (h.0, h.1, elim h.2 [ inl here ↦ here | inr gone ↦ absurd (gone_nowhere h.0 h.1 gone) ])

    is_whole : (all_started plan x ≡ true) × (x.asked ≡ shards_of x)
    is_whole =
        let v = l.means.servers shard.0 from.0 from.1 in
        let d : IsDecided from.0.lists.links id = elim (v.decided id done.0.decided) [ inl k ↦ k | inr f ↦ absurd (gone_nowhere from.0 from.1 f.gone) ] in
        let k = known_has from.0.lists.known id (sym (known_alike from.0.lists.known from.0.lists.links (nw.servers shard.0 from.0 from.1).same id) ∙ d.own) in
        (subst (IsWholeAt plan w.coords) k.2 ((o.servers shard.0 from.0 from.1).known k.0 k.1)) s x found_at pending same

    asked_shard : is_asked x shard ≡ true
    asked_shard =
        let e = any_has (λ (e : StartedGroup). is_txn e.id id) from.0.started from.2 in
        let k = (o.servers shard.0 from.0 from.1).groups e.0 e.1 in
        let was = (subst (λ t. AskedBy w.coords t e.0.group shard.0) (is_txn-true e.0.id id e.2) k) s x found_at pending same in
        let z = any_has (λ (z : SentStart). z.group == e.0.group && z.shard.0 == shard.0) x.starts was in
        let zp = and_parts (z.0.group == e.0.group) (z.0.shard.0 == shard.0) z.2 in
        let few : shard.0 < 64 = subst (λ n. n < 64) ((l.means.servers shard.0 from.0 from.1).groups.entries e.0 e.1).on (few_place plan asked S start is log i (run_of e.0.id e.0.group)) in
        let listed = shard_listed x.starts shard z.0 z.1 zp.1 few in
        has_any (λ (a : Shard). a.0 == shard.0) x.asked shard (subst (Has shard) (sym is_whole.1) listed) (eq-eqb shard.0 shard.0 refl)

    many : length outs ≡ length (places_on plan x shard)
    many =
        let d : DoneMeans plan asked S start log x.id shard.0 outs = subst (λ t. DoneMeans plan asked S start log t shard.0 outs) (sym same) done.0 in
        let gs = filter (waits_at plan asked S start log shard.0 x.id) (range_with_len 0 (length (groups_of plan (asked x.id).procedure))) in
        ap length d.is
        ∙ (lengths_of_flat (outs_of plan (asked x.id).procedure) (λ g. ((stage plan asked S start log).yielded (run_of x.id g)).outs) gs (counts_at plan asked S start is log i x held is_whole.0 shard.0 d.decided)
        ∙ sym (ap length (places_are plan asked S start is log i x held is_whole.0 shard)))

    commitok_fit : is_fit_commitok plan x (record { shard = shard; outs = outs }) ≡ true
    commitok_fit = and_from (is_asked x shard) (length outs == length (places_on plan x shard)) asked_shard (eq-eqb (length outs) (length (places_on plan x shard)) many)

  -- ---- any message

  pub message_stale : (m : Envelope) → Has m w.sent → m.to ≡ Coord n → (why : Reason) → (after_message plan s m.msg).answer ≡ Ignored why → why ≡ Stale
  message_stale m has to why e = go m.msg refl e
    where
      only : Ignored Stale ≡ Ignored why → why ≡ Stale
      only e = cc

      -- what was submitted as a transaction is the id of no view
      unawaited : (id : TxnId) → WasSubmitted w.history id → (v : Option View) → find_view id s.views ≡ v → Ignored (unasked v) ≡ Ignored why → why ≡ Stale
      unawaited id was None f e = only e
      unawaited id was (Some v) f e =
          let q = found_has (λ (v : View). is_txn v.id id) s.views v f in
          let named : Has id (view_ids s.views) = subst (λ t. Has t (view_ids s.views)) (is_txn-true v.id id q.1) (has_map (λ (v : View). v.id) v s.views q.0) in
          absurd (l.called id was ((l.means.coords n s there).views id named))

      startok : (id : TxnId) (g : ℕ) (shard : Shard) (bound outs : List ℤ) (edges : List Dependency) (facts : List KnownList) → m.msg ≡ StartOk id g shard bound outs edges facts → (x : Option Transaction) → find_transaction id s.pending ≡ x
          → (after_startok plan s id x (record { group = g; bound = bound; outs = outs; edges = edges; facts = facts }) shard).answer ≡ Ignored why → why ≡ Stale
      startok id g shard bound outs edges facts msg None f e =
          let means = subst (λ msg. Means plan asked S start log msg m.to) msg (l.means.messages m has) in
          unawaited id (l.began (run_of id g) means.0.began) (find_view id s.views) refl e
      startok id g shard bound outs edges facts msg (Some x) f e =
          let q = found_has (λ (x : Transaction). is_txn x.id id) s.pending x f in
          judged (is_some (find_startok g x.startoks)) (is_fit_startok plan x (record { group = g; bound = bound; outs = outs; edges = edges; facts = facts }) shard)
          (startok_fit m has to id g shard bound outs edges facts msg x q.0 (is_txn-true x.id id q.1)) e
        where
          judged : (a b : Bool) → b ≡ true → (unless_refused s (if a then Some Stale else (if not b then Some Unfit else None)) (startok_taken plan s (with_startok x (record { group = g; bound = bound; outs = outs; edges = edges; facts = facts })))).answer ≡ Ignored why → why ≡ Stale
          judged true b fit e = only e
          judged false true fit e = absurd (cc)
          judged false false fit e = absurd (false≢true fit)

      commitok : (id : TxnId) (shard : Shard) (outs : List ℤ) → m.msg ≡ CommitOk id shard outs → (x : Option Transaction) → find_transaction id s.pending ≡ x → (after_commitok plan s id x (record { shard = shard; outs = outs })).answer ≡ Ignored why → why ≡ Stale
      commitok id shard outs msg None f e =
          let means = subst (λ msg. Means plan asked S start log msg m.to) msg (l.means.messages m has) in
          unawaited id (ordered_submitted plan asked S start is laws w log l id (subst (λ l. IsListed is_txn l id) (sym l.means.order) (i.in_order shard.0 id means.0.decided))) (find_view id s.views) refl e
      commitok id shard outs msg (Some x) f e =
          let q = found_has (λ (x : Transaction). is_txn x.id id) s.pending x f in
          judged (has_commitok shard x.commitoks) (is_fit_commitok plan x (record { shard = shard; outs = outs })) (commitok_fit m has to id shard outs msg x q.0 (is_txn-true x.id id q.1)) (reply_now plan (with_commitok x (record { shard = shard; outs = outs }))) e
        where
          judged : (a b : Bool) → b ≡ true → (reply : Option (List ℤ)) → (unless_refused s (if a then Some Stale else (if not b then Some Unfit else None)) (commitok_taken plan s (with_commitok x (record { shard = shard; outs = outs })) reply)).answer ≡ Ignored why → why ≡ Stale
          judged true b fit reply e = only e
          judged false true fit None e = absurd (cc)
          judged false true fit (Some reply) e = absurd (cc)
          judged false false fit reply e = absurd (false≢true fit)

      to_server : (v : Shard) → m.to ≡ Server v → ⊥
      to_server v e = let f = to in cc

      server_alone : (msg : Msg) → m.msg ≡ msg → Means plan asked S start log msg (Coord n)
      server_alone msg e = subst (λ to. Means plan asked S start log msg to) to (subst (λ msg. Means plan asked S start log msg m.to) e (l.means.messages m has))

      go : (msg : Msg) → m.msg ≡ msg → (after_message plan s msg).answer ≡ Ignored why → why ≡ Stale
      go (StartOk id g shard bound outs edges facts) f e = startok id g shard bound outs edges facts f (find_transaction id s.pending) refl e
      go (CommitOk id shard outs) f e = commitok id shard outs f (find_transaction id s.pending) refl e
      go (Start id proc group args inputs) f e = let k = (server_alone (Start id proc group args inputs) f).to in absurd (cc)
      go (Commit id edges facts) f e = absurd ((server_alone (Commit id edges facts) f).1)
      go (Known id edges) f e = absurd ((server_alone (Known id edges) f).1)
      go (Ended coord mark) f e = absurd ((server_alone (Ended coord mark) f).1)
      go (Settled id mark) f e = absurd ((server_alone (Settled id mark) f).2)
      go msg f e = absurd (server_alone msg f)
