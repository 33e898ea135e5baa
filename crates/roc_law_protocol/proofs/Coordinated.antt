-- What comes of a message, a tick and a submission at a coordinator
use Rattle.std.proofs.Common.{◌≡◌, ℕ, ℤ, ◌==◌, Bool, true, false, not, cond, ◌&&◌, List, [], ◌∷◌, Option, Some, None, length, map, refl, sym, ap, subst, ◌∙◌, ◌⊎◌, inl, inr, arith, is_some, flat_map}
use Rattle.std.proofs.lemmas.Bool.{false≢true, and_parts, and_from, eq-eqb, cases_eq}
use Rattle.std.specs.Prelude.{slice_get, filter, is_none, if◌then◌else◌}
use Rattle.roc_sequence.specs.Lists.{Has}
use Rattle.roc_sequence.specs.Places.{IsListed}
use Rattle.roc_sequence.proofs.Found.{found_has}
use Rattle.roc_sequence.proofs.Holds.{any_has, has_any}
use Rattle.roc_sequence.proofs.Members.{has_append, has_one, has_left, has_right, has_map, from_has_map, has_filter, from_has_filter, from_has_flat_map}
use Rattle.roc_sequence.proofs.Appended.{listed_behind, listed_either}
use Rattle.roc_base.specs.declared.id.TxnId.{TxnId}
use Rattle.roc_base.specs.declared.node.Node.{Node}
use Rattle.roc_base.specs.declared.node.Shard.{Shard}
use Rattle.roc_base.specs.TxnId.{is_txn}
use Rattle.roc_base.specs.Equalities.{is_txn-true}
use Rattle.roc_depgraph.proofs.Listed.{listed_one, in_one}
use Rattle.roc_msg.specs.declared.msg.Msg.{Msg}
use Rattle.roc_msg.specs.declared.msg.Msg.TheVariants.{StartOk, CommitOk, Ended, ReadOk}
use Rattle.roc_msg.specs.declared.outbox.Outgoing.{Outgoing}
use Rattle.roc_msg.specs.declared.reason.Reason.TheVariants.{Stale, Unfit}
use Rattle.roc_plan.specs.Groups.{Plan}
use Rattle.roc_whole.specs.Serial as whole
use Rattle.roc_law_log.specs.Scheme.{Scheme}
use Rattle.roc_law_log.specs.Log.{Log}
use Rattle.roc_law_orders.specs.Behaviour.{TxnGroup}
use Rattle.roc_law_log.specs.Steps.{LogSteps, no_steps, one_step_more, is_answered, with_answer, IsReachedLog}
use Rattle.roc_law_log.specs.Invariants.{LogInvariants, LogGrows}
use Rattle.roc_coord.specs.declared.transaction.Transaction.{Transaction}
use Rattle.roc_coord.specs.declared.transaction.SentStart.{SentStart}
use Rattle.roc_coord.specs.declared.transaction.TakenStart.{TakenStart}
use Rattle.roc_coord.specs.declared.transaction.TakenCommit.{TakenCommit}
use Rattle.roc_coord.specs.State.{find_transaction, with_transaction, find_start, find_startok, was_asked, has_commitok, CoordState}
use Rattle.roc_coord.specs.Starts.{group_numbers, can_start, is_ready, ready_groups, start_for, with_starts, starts_of, all_started, commits_of, commit_to, shards_of, bound_count, out_count}
use Rattle.roc_coord.specs.Commits.{all_committed, reply_of, places_on}
use Rattle.roc_coord.specs.Step.{unless_refused, is_fit_startok, with_commits, commits_for, with_startok, sends_after, startok_taken, after_startok, is_asked, is_fit_commitok, with_commitok, reply_now, without_transaction, commitok_taken, after_commitok, after_message, answered_sends}
use Rattle.roc_coord.specs.Submit.{next_id, new_transaction, accepted}
use Rattle.roc_coord.specs.Tick.{awaits_startok, starts_again, commits_again, sent_again}
use Rattle.roc_audit.specs.declared.entry.Entry.{Entry}
use Rattle.roc_audit.specs.declared.entry.Entry.TheVariants as entry
use Rattle.roc_law_protocol.specs.PlanAssumptions.{IsSchemeOf}
use Rattle.roc_law_protocol.specs.Beginnings.{Beginning}
use Rattle.roc_law_protocol.specs.Aside.{transaction_tick_sends}
use Rattle.roc_law_protocol.specs.World.{World, at_coord}
use Rattle.roc_law_protocol.specs.Happens.{answer_entries}
use Rattle.roc_law_protocol.specs.Inner.Given.{LogLaws}
use Rattle.roc_law_protocol.proofs.Means.{IsPast, run_of, place, Began, Means, ToldMeans, DoneMeans, TxnMeans, CoordMeans, AnswerMeans, WorldMeans}
use Rattle.roc_law_protocol.proofs.Coordinators.{starts_mean, commits_mean, commits_for-mean}
use Rattle.roc_law_protocol.proofs.Rounds.{shards_begun, told, first_means, starts_means, commits_means, commitok_means, startok_means}
use Rattle.roc_law_protocol.proofs.Replies.{answer_means}
use Rattle.roc_law_protocol.proofs.Grows.{txn_grows, answered_grows, past_grows, answer_grows}
use Rattle.roc_law_protocol.proofs.Elsewhere.{IsQuietOn, server_elsewhere}
use Rattle.roc_law_protocol.proofs.Changed.{coord_means}
use Rattle.roc_law_protocol.proofs.Served.{StartsAre}
use Rattle.roc_law_protocol.proofs.Marks.{IsMark, IsMarkOf, mark_sent, mark_told, mark_least, mark_next}
use Rattle.roc_coord.specs.Marks.{ended_sends}

-- no start is among the watermarks
pub mark_starts-none : (Of : TxnId → Type 0) (msg : Msg) → IsMark msg → StartsAre Of msg
mark_starts-none Of (Ended coord mark) h = tt
mark_starts-none Of msg h = absurd h

module _ (plan : Plan) (asked : TxnId → whole.Call) (S : Scheme) (start : Beginning) (is : IsSchemeOf plan asked S) (laws : LogLaws S start.store) (c : Log) (i : LogInvariants S start.store c) (w : World) (o : WorldMeans plan asked S start c w) (n : ℕ) (s : CoordState) (there : slice_get w.coords n ≡ Some s) (Of : TxnId → Type 0) (of : (x : Transaction) → Has x s.pending → Of x.id) where
  -- some steps of the log explain what a coordinator does, in which no group starts; and what it starts and holds is of these transactions
  pub record IsCoordinated (after : CoordState) (outs : List Outgoing) (tells : List Entry) : Type 0 where
    pub log : Log
    pub steps : LogSteps S start.store c log
    pub means : WorldMeans plan asked S start log (at_coord w n after outs tells)
    pub began : (q : TxnGroup) → Began plan asked S start log q → Began plan asked S start c q
    -- nothing runs, and no shard decides
    pub ran : log.past.ran ≡ c.past.ran
    pub decided : (shard : ℕ) → log.decided shard ≡ c.decided shard
    pub starts : (out : Outgoing) → Has out outs → StartsAre Of out.msg
    pub pending : (x : Transaction) → Has x after.pending → Of x.id

  mine : CoordMeans plan asked S start c s
  mine = o.coords n s there

  means : (x : Transaction) → Has x s.pending → TxnMeans plan asked S start c x
  means = mine.pending

  -- the log does nothing, and nobody is answered
  pub still : (after : CoordState) (outs : List Outgoing) (tells : List Entry) → CoordMeans plan asked S start c after → ((out : Outgoing) → Has out outs → Means plan asked S start c out.msg out.to)
      → ((t : TxnId) (reply : List ℤ) → ¬ Has (entry.Answered t reply) tells)
      → ((out : Outgoing) → Has out outs → StartsAre Of out.msg) → ((x : Transaction) → Has x after.pending → Of x.id) → IsCoordinated after outs tells
  still after outs tells holds sends none starts pending =
      record {
        log = c;
        steps = no_steps;
        means = coord_means plan asked S start is c c i i (laws.grows c c i no_steps) o.reached w o n s after outs tells there o.servers o.order holds sends
            (λ t reply h. absurd (none t reply h))
            (λ t. (
              λ h. (let k = (o.answers t).0 h in (k.0, has_left (entry.Answered t k.0) w.history tells k.1)),
              λ k. elim (has_append (entry.Answered t k.0) w.history tells k.1) [ inl h ↦ (o.answers t).1 (k.0, h) | inr h ↦ absurd (none t k.0 h) ],
            ));
        began = λ q h. h;
        ran = refl;
        decided = λ shard. refl;
        starts = starts;
        pending = pending;
      }

  -- it changes nothing
  same : (outs : List Outgoing) → ((out : Outgoing) → Has out outs → Means plan asked S start c out.msg out.to) → ((out : Outgoing) → Has out outs → StartsAre Of out.msg) → IsCoordinated s outs []
  same outs sends starts = still s outs [] mine sends (λ t reply h. h) starts of

  ignores : IsCoordinated s [] []
  ignores = same [] (λ out h. absurd h) (λ out h. absurd h)

  -- ---- one of its transactions changes

  kept : (x : Transaction) (z : Transaction) → Has z (with_transaction s x).pending → (z ≡ x) ⊎ Has z s.pending
  kept x z h =
      let q = from_has_map (λ (y : Transaction). if is_txn y.id x.id then x else y) z s.pending h in
      go q.0 q.1 (is_txn q.0.id x.id) q.2
    where
      go : (y : Transaction) → Has y s.pending → (b : Bool) → z ≡ cond b x y → (z ≡ x) ⊎ Has z s.pending
      go y k true e = inl e
      go y k false e = inr (subst (λ z. Has z s.pending) (sym e) k)

  -- each is there with its id
  stays : (x y : Transaction) → Has y s.pending → (z : Transaction) × Has z (with_transaction s x).pending × (z.id ≡ y.id)
  stays x y h = (if is_txn y.id x.id then x else y, has_map (λ (y : Transaction). if is_txn y.id x.id then x else y) y s.pending h, go (is_txn y.id x.id) refl)
    where
      go : (b : Bool) → is_txn y.id x.id ≡ b → (cond b x y).id ≡ y.id
      go true e = sym (is_txn-true y.id x.id e)
      go false e = refl

  changes : (x : Transaction) → TxnMeans plan asked S start c x → Has x.id s.unanswered → Of x.id → (outs : List Outgoing) → ((out : Outgoing) → Has out outs → Means plan asked S start c out.msg out.to) → ((out : Outgoing) → Has out outs → StartsAre Of out.msg) → IsCoordinated (with_transaction s x) outs []
  changes x m listed_id k outs sends starts =
      still (with_transaction s x) outs []
      (record {
        pending = λ z h. elim (kept x z h) [ inl e ↦ subst (TxnMeans plan asked S start c) (sym e) m | inr j ↦ means z j ];
        unanswered = λ z h. elim (kept x z h) [ inl e ↦ subst (λ (z : Transaction). Has z.id s.unanswered) (sym e) listed_id | inr j ↦ mine.unanswered z j ];
        views = mine.views;
        all = λ q l. elim (mine.all q l) [ inl p ↦ (let z = stays x p.0 p.1 in inl (z.0, z.1, z.2 ∙ p.2)) | inr h ↦ inr h ];
        onward = mine.onward;
      })
      sends (λ t reply h. h) starts
      (λ z h. elim (kept x z h) [ inl e ↦ subst (λ (z : Transaction). Of z.id) (sym e) k | inr j ↦ of z j ])

  -- what is sent of a transaction is of it
  starts_of-it : (x : Transaction) → Of x.id → (gs : List ℕ) (out : Outgoing) → Has out (map (start_for plan x) gs) → StartsAre Of out.msg
  starts_of-it x k gs out h = let q = from_has_map (start_for plan x) out gs h in subst (λ (out : Outgoing). StartsAre Of out.msg) (sym q.2) k

  commits_start-none : (x : Transaction) (shards : List Shard) (out : Outgoing) → Has out (map (commit_to x) shards) → StartsAre Of out.msg
  commits_start-none x shards out h = let q = from_has_map (commit_to x) out shards h in subst (λ (out : Outgoing). StartsAre Of out.msg) (sym q.2) tt

  -- ---- a startok

  module _ (x : Transaction) (m : TxnMeans plan asked S start c x) (k : Of x.id) where
    new_mean : (out : Outgoing) → Has out (starts_of plan x) → Means plan asked S start c out.msg out.to
    new_mean out h = starts_mean plan asked S start is c i x (told plan asked S start is c i x m) (can_start plan x) (λ g l e. (and_parts (is_ready plan x g) (is_none (find_start g x.starts)) e).0) out h

    round : Has x.id s.unanswered → IsCoordinated (with_transaction s (with_commits plan (with_starts plan x))) (sends_after plan x) []
    round listed_id =
        let y = with_starts plan x in
        let my = starts_means plan asked S start is c i x m in
        changes (with_commits plan y) (commits_means plan asked S start is c i y my) (of_commits (λ t. Has t s.unanswered) listed_id y (all_started plan y)) (of_commits Of k y (all_started plan y)) (sends_after plan x)
        (λ out h. elim (has_append out (starts_of plan x) (commits_for plan y) h) [ inl j ↦ new_mean out j | inr j ↦ commits_for-mean plan asked S start is c i y (told plan asked S start is c i y my) (shards_begun plan asked S start is c i y my) out j ])
        (λ out h. elim (has_append out (starts_of plan x) (commits_for plan y) h) [ inl j ↦ starts_of-it x k (ready_groups plan x) out j | inr j ↦ none y out (all_started plan y) j ])
      where
        of_commits : (P : TxnId → Type 0) → P x.id → (y : Transaction) (b : Bool) → P (cond b (record (with_starts plan x) { asked = shards_of y }) (with_starts plan x)).id
        of_commits P p y true = p
        of_commits P p y false = p

        none : (y : Transaction) (out : Outgoing) (b : Bool) → Has out (cond b (commits_of y) []) → StartsAre Of out.msg
        none y out true h = commits_start-none y (shards_of y) out h
        none y out false h = absurd h

  startok_explained : (ok : TakenStart) (shard : Shard) (id : TxnId) → ToldMeans plan asked S start c (run_of id ok.group) ok.bound ok.outs ok.edges ok.facts → shard.0 ≡ place plan asked S start c (run_of id ok.group)
      → (x : Option Transaction) → find_transaction id s.pending ≡ x
      → IsCoordinated (after_startok plan s id x ok shard).state (after_startok plan s id x ok shard).sends (answer_entries (after_startok plan s id x ok shard).answer)
  startok_explained ok shard id d on None e = ignores
  startok_explained ok shard id d on (Some x) e = fresh (is_some (find_startok ok.group x.startoks))
    where
      found : Has x s.pending × (is_txn x.id id ≡ true)
      found = found_has (λ (x : Transaction). is_txn x.id id) s.pending x e

      same_id : id ≡ x.id
      same_id = sym (is_txn-true x.id id found.1)

      unfit : (b : Bool) → is_fit_startok plan x ok shard ≡ b → IsCoordinated (unless_refused s (if not b then Some Unfit else None) (startok_taken plan s (with_startok x ok))).state (unless_refused s (if not b then Some Unfit else None) (startok_taken plan s (with_startok x ok))).sends (answer_entries (unless_refused s (if not b then Some Unfit else None) (startok_taken plan s (with_startok x ok))).answer)
      unfit false f = ignores
      unfit true f =
          let was = (and_parts (was_asked x ok.group shard) (length ok.bound == bound_count plan x.proc ok.group) (and_parts (was_asked x ok.group shard && length ok.bound == bound_count plan x.proc ok.group) (length ok.outs == out_count plan x.proc ok.group) f).0).0 in
          round (with_startok x ok)
          (startok_means plan asked S start is c i x (means x found.0) ok shard was
          (subst (λ t. shard.0 ≡ place plan asked S start c (run_of t ok.group)) same_id on)
          (subst (λ t. ToldMeans plan asked S start c (run_of t ok.group) ok.bound ok.outs ok.edges ok.facts) same_id d))
          (of x found.0)
          (mine.unanswered x found.0)

      fresh : (b : Bool) → IsCoordinated (unless_refused s (if b then Some Stale else (if not (is_fit_startok plan x ok shard) then Some Unfit else None)) (startok_taken plan s (with_startok x ok))).state (unless_refused s (if b then Some Stale else (if not (is_fit_startok plan x ok shard) then Some Unfit else None)) (startok_taken plan s (with_startok x ok))).sends (answer_entries (unless_refused s (if b then Some Stale else (if not (is_fit_startok plan x ok shard) then Some Unfit else None)) (startok_taken plan s (with_startok x ok))).answer)
      fresh true = ignores
      fresh false = unfit (is_fit_startok plan x ok shard) refl

  -- the watermark of what a coordinator holds, where these are answered
  pub mark_means : (log : Log) (after : CoordState) → CoordMeans plan asked S start log after → (out : Outgoing) → IsMarkOf plan after out → Means plan asked S start log out.msg out.to
  mark_means log after holds out q =
      subst (λ (out : Outgoing). Means plan asked S start log out.msg out.to) (sym q.is) (
        λ k l. let bound = mark_next after in elim (holds.all k (omega arith)) [
          | inl p ↦ absurd (let least = mark_least after p.0.id (holds.unanswered p.0 p.1) in let same : p.0.id.seq ≡ k = ap (λ (t : TxnId). t.seq) p.2 in omega arith)
          | inr h ↦ h
        ],
        tt,
      )

  pub mark_starts : (after : CoordState) (out : Outgoing) → IsMarkOf plan after out → StartsAre Of out.msg
  mark_starts after out q = subst (λ (out : Outgoing). StartsAre Of out.msg) (sym q.is) tt

  -- ---- an answer

  -- a transaction is answered, and so it is in the log
  module _ (t : TxnId) (reply : List ℤ) (a : AnswerMeans plan asked S start c t reply) where
    abbrev d : Log
    d = with_answer c t

    beside_goes_on : LogSteps S start.store c d
    beside_goes_on = one_step_more no_steps (is_answered t a.throughout)

    reached : IsReachedLog S start.store d
    reached = one_step_more o.reached (is_answered t a.throughout)

    j : LogInvariants S start.store d
    j = laws.holds d reached

    g : LogGrows S start.store c d
    g = laws.grows c d i beside_goes_on

    quiet : (shard : ℕ) → IsQuietOn plan asked S start c d shard
    quiet shard = record { began = λ r b p. b; ran = λ r h imm p. h; cells = λ x e. refl; decided = refl }

    listed : IsListed is_txn d.answered t
    listed = listed_behind is_txn c.answered (t ∷ []) t (in_one t)

    rest : (z : Transaction) → Has z (without_transaction s t).pending → Has z s.pending
    rest z k = (from_has_filter (λ (y : Transaction). not (is_txn y.id t)) z s.pending k).0

    without_means : CoordMeans plan asked S start d (without_transaction s t)
    without_means =
        record {
          pending = λ z k. txn_grows plan asked S start is c d i j g z (means z (rest z k));
          unanswered = λ z k. has_filter (λ u. not (is_txn u t)) z.id s.unanswered (mine.unanswered z (rest z k)) (from_has_filter (λ (y : Transaction). not (is_txn y.id t)) z s.pending k).1;
          views = mine.views;
          all = λ q l. elim (mine.all q l) [
            | inl p ↦ go p.0 p.1 q p.2 (is_txn p.0.id t) refl
            | inr h ↦ inr (past_grows plan asked S start is c d i j g (record { coord = s.number; seq = q }) h)
          ];
          onward = mine.onward;
        }
      where
        go : (y : Transaction) → Has y s.pending → (q : ℕ) → y.id ≡ record { coord = s.number; seq = q } → (b : Bool) → is_txn y.id t ≡ b
            → ((x : Transaction) × Has x (without_transaction s t).pending × (x.id ≡ record { coord = s.number; seq = q })) ⊎ IsPast plan asked S start d (record { coord = s.number; seq = q })
        go y h q e true f = inr (inl (subst (λ u. IsListed is_txn d.answered u) (sym (is_txn-true y.id t f) ∙ e) listed))
        go y h q e false f = inl (y, has_filter (λ (y : Transaction). not (is_txn y.id t)) y s.pending h (ap not f), e)

    abbrev tells : List Entry
    tells = entry.Answered t reply ∷ []

    is_answered_here : IsCoordinated (without_transaction s t) (answered_sends plan s (without_transaction s t)) tells
    is_answered_here =
        record {
          log = d;
          steps = beside_goes_on;
          means = coord_means plan asked S start is c d i j g reached w o n s (without_transaction s t) (answered_sends plan s (without_transaction s t)) tells there
              (λ m v h. server_elsewhere plan asked S start is c d i j g m (quiet m) v (o.servers m v h))
              o.order without_means (λ out k. mark_means d (without_transaction s t) without_means out (mark_told plan s (without_transaction s t) out k))
              (λ u r k. told u r (has_one (entry.Answered u r) (entry.Answered t reply) k))
              (λ u. (
                λ h. elim (listed_either is_txn c.answered (t ∷ []) u h) [
                  | inl k ↦ (let z = (o.answers u).0 k in (z.0, has_left (entry.Answered u z.0) w.history tells z.1))
                  | inr k ↦ (reply, has_right (entry.Answered u reply) w.history tells (inl (ap (λ u. entry.Answered u reply) (listed_one t u k.1))))
                ],
                λ k. elim (has_append (entry.Answered u k.0) w.history tells k.1) [
                  | inl h ↦ answered_grows plan asked S start is c d i j g u ((o.answers u).1 (k.0, h))
                  | inr h ↦ (let e = has_one (entry.Answered u k.0) (entry.Answered t reply) h in let same : u ≡ t = cc in subst (λ u. IsListed is_txn d.answered u) (sym same) listed)
                ],
              ));
          began = λ q h. h;
          ran = refl;
          decided = λ shard. refl;
          starts = λ out k. mark_starts (without_transaction s t) out (mark_told plan s (without_transaction s t) out k);
          pending = λ z k. of z (rest z k);
        }
      where
        told : (u : TxnId) (r : List ℤ) → entry.Answered u r ≡ entry.Answered t reply → AnswerMeans plan asked S start d u r
        told u r e =
            let same : u ≡ t = cc in
            let alike : r ≡ reply = cc in
            subst (λ u. AnswerMeans plan asked S start d u r) (sym same) (subst (AnswerMeans plan asked S start d t) (sym alike) (answer_grows plan asked S start is c d i j g t reply a))

  -- ---- a commitok

  commitok_explained : (ok : TakenCommit) (id : TxnId) → DoneMeans plan asked S start c id ok.shard.0 ok.outs → (x : Option Transaction) → find_transaction id s.pending ≡ x
      → IsCoordinated (after_commitok plan s id x ok).state (after_commitok plan s id x ok).sends (answer_entries (after_commitok plan s id x ok).answer)
  commitok_explained ok id d None e = ignores
  commitok_explained ok id d (Some x) e = fresh (has_commitok ok.shard x.commitoks)
    where
      found : Has x s.pending × (is_txn x.id id ≡ true)
      found = found_has (λ (x : Transaction). is_txn x.id id) s.pending x e

      same_id : id ≡ x.id
      same_id = sym (is_txn-true x.id id found.1)

      d2 : DoneMeans plan asked S start c x.id ok.shard.0 ok.outs
      d2 = subst (λ t. DoneMeans plan asked S start c t ok.shard.0 ok.outs) same_id d

      m : TxnMeans plan asked S start c (with_commitok x ok)
      m = commitok_means plan asked S start is c i x (means x found.0) ok d2

      decided : IsListed is_txn (c.decided ok.shard.0) x.id
      decided = d2.decided

      answers : (a : Shard) → Has a x.asked → (b : Bool) → all_committed (with_commitok x ok) ≡ b
          → IsCoordinated (commitok_taken plan s (with_commitok x ok) (if b then Some (reply_of plan (with_commitok x ok)) else None)).state (commitok_taken plan s (with_commitok x ok) (if b then Some (reply_of plan (with_commitok x ok)) else None)).sends (answer_entries (commitok_taken plan s (with_commitok x ok) (if b then Some (reply_of plan (with_commitok x ok)) else None)).answer)
      answers a h false f = changes (with_commitok x ok) m (mine.unanswered x found.0) (of x found.0) [] (λ out h. absurd h) (λ out h. absurd h)
      answers a h true f =
          let all = m.asked_whole a h in
          let in_order = i.in_order ok.shard.0 x.id decided in
          is_answered_here x.id (reply_of plan (with_commitok x ok))
          (answer_means plan asked S start is c i (with_commitok x ok) m all.0 all.1 f in_order)

      unfit : (b : Bool) → is_fit_commitok plan x ok ≡ b
          → IsCoordinated (unless_refused s (if not b then Some Unfit else None) (commitok_taken plan s (with_commitok x ok) (reply_now plan (with_commitok x ok)))).state (unless_refused s (if not b then Some Unfit else None) (commitok_taken plan s (with_commitok x ok) (reply_now plan (with_commitok x ok)))).sends (answer_entries (unless_refused s (if not b then Some Unfit else None) (commitok_taken plan s (with_commitok x ok) (reply_now plan (with_commitok x ok)))).answer)
      unfit false f = ignores
      unfit true f =
          let a = any_has (λ (a : Shard). a.0 == ok.shard.0) x.asked (and_parts (is_asked x ok.shard) (length ok.outs == length (places_on plan x ok.shard)) f).0 in
          answers a.0 a.1 (all_committed (with_commitok x ok)) refl

      fresh : (b : Bool) → IsCoordinated (unless_refused s (if b then Some Stale else (if not (is_fit_commitok plan x ok) then Some Unfit else None)) (commitok_taken plan s (with_commitok x ok) (reply_now plan (with_commitok x ok)))).state (unless_refused s (if b then Some Stale else (if not (is_fit_commitok plan x ok) then Some Unfit else None)) (commitok_taken plan s (with_commitok x ok) (reply_now plan (with_commitok x ok)))).sends (answer_entries (unless_refused s (if b then Some Stale else (if not (is_fit_commitok plan x ok) then Some Unfit else None)) (commitok_taken plan s (with_commitok x ok) (reply_now plan (with_commitok x ok)))).answer)
      fresh true = ignores
      fresh false = unfit (is_fit_commitok plan x ok) refl

  -- ---- any message, a tick, a submission

  pub message_coordinated : (msg : Msg) (to : Node) → Means plan asked S start c msg to → IsCoordinated (after_message plan s msg).state (after_message plan s msg).sends (answer_entries (after_message plan s msg).answer)
  message_coordinated (StartOk id group shard bound outs edges facts) to m = startok_explained (record { group = group; bound = bound; outs = outs; edges = edges; facts = facts }) shard id m.0 m.1 (find_transaction id s.pending) refl
  message_coordinated (CommitOk id shard outs) to m = commitok_explained (record { shard = shard; outs = outs }) id m.0 (find_transaction id s.pending) refl
  message_coordinated (ReadOk id round group shard versions outs) to m = absurd m
  message_coordinated msg to m = ignores

  pub tick_coordinated : IsCoordinated s (transaction_tick_sends plan s) []
  tick_coordinated =
      same (transaction_tick_sends plan s)
      (λ out h. elim (has_append out (flat_map (sent_again plan) s.pending) (ended_sends plan s) h) [
        | inl k ↦ (let q = from_has_flat_map (sent_again plan) out s.pending k in again_mean q.0 (means q.0 q.1) out (all_started plan q.0) refl q.2)
        | inr k ↦ mark_means c s mine out (mark_sent plan s out k)
      ])
      (λ out h. elim (has_append out (flat_map (sent_again plan) s.pending) (ended_sends plan s) h) [
        | inl k ↦ (let q = from_has_flat_map (sent_again plan) out s.pending k in again_of q.0 (of q.0 q.1) out (all_started plan q.0) q.2)
        | inr k ↦ mark_starts s out (mark_sent plan s out k)
      ])
    where
      ready : (x : Transaction) → TxnMeans plan asked S start c x → (g : ℕ) → awaits_startok x g ≡ true → is_ready plan x g ≡ true
      ready x m g e = go (find_start g x.starts) refl (and_parts (is_some (find_start g x.starts)) (is_none (find_startok g x.startoks)) e).0
        where
          go : (z : Option SentStart) → find_start g x.starts ≡ z → is_some z ≡ true → is_ready plan x g ≡ true
          go None k e = absurd (false≢true e)
          go (Some z) k e =
              let f = found_has (λ (z : SentStart). z.group == g) x.starts z k in
              m.ready g z.shard (has_any (λ (y : SentStart). y.group == g && y.shard.0 == z.shard.0) x.starts z f.0 (and_from (z.group == g) (z.shard.0 == z.shard.0) f.1 (eq-eqb z.shard.0 z.shard.0 refl)))

      again_mean : (x : Transaction) → TxnMeans plan asked S start c x → (out : Outgoing) → (b : Bool) → all_started plan x ≡ b → Has out (if b then commits_again x else starts_again plan x) → Means plan asked S start c out.msg out.to
      again_mean x m out true e h = commits_mean plan asked S start is c i x (told plan asked S start is c i x m) e (filter (λ (shard : Shard). not (has_commitok shard x.commitoks)) x.asked)
          (λ s k. let a = (from_has_filter (λ (shard : Shard). not (has_commitok shard x.commitoks)) s x.asked k).0 in shards_begun plan asked S start is c i x m e s (subst (Has s) (m.asked_whole s a).1 a)) out h
      again_mean x m out false e h = starts_mean plan asked S start is c i x (told plan asked S start is c i x m) (awaits_startok x) (λ g l e. ready x m g e) out h

      again_of : (x : Transaction) → Of x.id → (out : Outgoing) → (b : Bool) → Has out (if b then commits_again x else starts_again plan x) → StartsAre Of out.msg
      again_of x k out true h = commits_start-none x (filter (λ (shard : Shard). not (has_commitok shard x.commitoks)) x.asked) out h
      again_of x k out false h = starts_of-it x k (filter (awaits_startok x) (group_numbers plan x.proc)) out h

  pub submission_coordinated : (proc : ℕ) (args : List ℤ) (tells : List Entry) → ((t : TxnId) (reply : List ℤ) → ¬ Has (entry.Answered t reply) tells)
      → proc ≡ (asked (next_id s)).procedure → args ≡ (asked (next_id s)).arguments → Of (next_id s)
      → IsCoordinated (accepted plan s (new_transaction s proc args)).state (accepted plan s (new_transaction s proc args)).sends tells
  submission_coordinated proc args tells none p a k =
      let x = new_transaction s proc args in
      let m = first_means plan asked S start is c i (next_id s) proc args p a in
      still (accepted plan s x).state (accepted plan s x).sends tells
      (record {
        pending = λ z h. elim (has_append z s.pending (with_starts plan x ∷ []) h) [ inl j ↦ means z j | inr j ↦ subst (TxnMeans plan asked S start c) (sym (has_one z (with_starts plan x) j)) (starts_means plan asked S start is c i x m) ];
        unanswered = λ z h. elim (has_append z s.pending (with_starts plan x ∷ []) h) [
          | inl j ↦ has_left z.id s.unanswered (next_id s ∷ []) (mine.unanswered z j)
          | inr j ↦ has_right z.id s.unanswered (next_id s ∷ []) (inl (ap (λ (z : Transaction). z.id) (has_one z (with_starts plan x) j)))
        ];
        views = mine.views;
        all = λ q l. elim (cases_eq q s.next) [
          | inl e ↦ inl (with_starts plan x, has_right (with_starts plan x) s.pending (with_starts plan x ∷ []) (inl refl), λ k. record { coord = s.number; seq = sym e k })
          | inr e ↦ elim (mine.all q (omega arith)) [
            | inl p ↦ inl (p.0, has_left p.0 s.pending (with_starts plan x ∷ []) p.1, p.2)
            | inr h ↦ inr h
          ]
        ];
        onward = (let k = mine.onward in omega arith);
      })
      (new_mean x m k) none
      (starts_of-it x k (ready_groups plan x))
      (λ z h. elim (has_append z s.pending (with_starts plan x ∷ []) h) [ inl j ↦ of z j | inr j ↦ subst (λ (z : Transaction). Of z.id) (sym (has_one z (with_starts plan x) j)) k ])
