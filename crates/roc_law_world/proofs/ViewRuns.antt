-- In every world what is kept for views says of the log what it has to
use Rattle.std.proofs.Common.{◌≡◌, ◌≢◌, ◌∙◌, inl, inr, ℕ, ℤ, ◌-◌, ◌<◌, ◌==◌, Bool, true, false, not, cond, List, [], ◌∷◌, ◌++◌, Option, Some, None, map, length, refl, sym, ap, subst, arith, append-nil, is_some}
use Rattle.std.proofs.lemmas.Bool.{false≢true, eqb-true}
use Rattle.std.proofs.lemmas.List.Elements.{filter-append}
use Rattle.std.specs.Prelude.{slice_get, if◌then◌else◌, slice_set}
use Rattle.roc_sequence.specs.Lists.{Has}
use Rattle.roc_sequence.proofs.Members.{has_right, has_one, has_at, has_map, from_has_map, from_has_filter}
use Rattle.roc_sequence.proofs.Found.{found_has}
use Rattle.roc_base.specs.declared.id.TxnId.{TxnId}
use Rattle.roc_base.specs.declared.node.Node.{Node}
use Rattle.roc_base.specs.declared.node.Node.TheVariants.{Server, Coord}
use Rattle.roc_base.specs.declared.node.Shard.{Shard}
use Rattle.roc_base.specs.TxnId.{is_txn}
use Rattle.roc_base.specs.Equalities.{is_txn-true}
use Rattle.roc_msg.specs.declared.msg.Msg.{Msg}
use Rattle.roc_msg.specs.declared.msg.Msg.TheVariants.{ReadOk, StartOk, CommitOk}
use Rattle.roc_msg.specs.declared.msg.Envelope.{Envelope}
use Rattle.roc_rows.specs.Versions.{Counts}
use Rattle.roc_plan.specs.Groups.{Plan, groups_of, is_view_of}
use Rattle.roc_whole.specs.Serial as whole
use Rattle.roc_law_log.specs.Scheme.{Scheme, IsSoundScheme}
use Rattle.roc_law_log.specs.Log.{Log}
use Rattle.roc_law_log.specs.Steps.{LogSteps, no_steps}
use Rattle.roc_law_log.specs.Invariants.{LogInvariants, LogGrows}
use Rattle.roc_law_log.proofs.Following.{AreFound}
use Rattle.roc_step.specs.State.{answered, ServerState, ServerStep, Viewing}
use Rattle.roc_step.specs.Reads.{is_taken, AnswersReads, ReadStep}
use Rattle.roc_step.specs.declared.started.StartedGroup.{StartedGroup}
use Rattle.roc_step.specs.Step as server
use Rattle.roc_coord.specs.declared.handled.Handled.{Handled}
use Rattle.roc_coord.specs.declared.handled.Handled.TheVariants as coord_answer
use Rattle.roc_coord.specs.State.{ignored, find_transaction, find_view, CoordState, CoordStep}
use Rattle.roc_coord.specs.Step.{unless_refused, answered_sends, without_view, readok_taken, unread, after_readok, after_message}
use Rattle.roc_coord.specs.Tick.{tick_sends}
use Rattle.roc_readonly.specs.declared.view.Round.{Round}
use Rattle.roc_readonly.specs.declared.view.Round.TheVariants.{Waits, Ends, GoesOn}
use Rattle.roc_readonly.specs.declared.view.TakenRead.{TakenRead}
use Rattle.roc_readonly.specs.declared.view.View.{View}
use Rattle.roc_readonly.specs.Round.{find_read, reads_of, is_full, is_steady, view_reply, with_readok, round_of, readok_refusal, is_fit_readok, last_round}
use Rattle.roc_audit.specs.declared.entry.Entry.{Entry}
use Rattle.roc_audit.specs.declared.entry.Entry.TheVariants as entry
use Rattle.roc_audit.specs.Woven.{without_views, entry_id}
use Rattle.roc_law_protocol.specs.PlanAssumptions.{IsSchemeOf}
use Rattle.roc_law_protocol.specs.Beginnings as protocol
use Rattle.roc_law_protocol.specs.declared.event.Event.{Event}
use Rattle.roc_law_protocol.specs.declared.event.Event.TheVariants.{Submit, Deliver, Tick, Stop}
use Rattle.roc_law_protocol.specs.Happens.{ran_at, answer_entries}
use Rattle.roc_law_protocol.specs.World as transactions
use Rattle.roc_law_protocol.specs.World.{sent_by}
use Rattle.roc_law_protocol.proofs.Means.{entry_run}
use Rattle.roc_law_world.specs.World.{World, mark_delivered, at_server, at_coord, at_coord_tick, looks_in}
use Rattle.roc_law_protocol.specs.declared.event.Seen.TheVariants as seen
use Rattle.roc_coord.specs.declared.handled.SubmitFault.{SubmitFault}
use Rattle.roc_coord.specs.declared.handled.SubmitFault.TheVariants as fault
use Rattle.roc_coord.specs.Submit.{next_id, new_transaction, accepted, accepted_view, refusal_of, refused_or_accepted, after_submit}
use Rattle.roc_msg.specs.declared.reason.Reason.{Reason}
use Rattle.roc_msg.specs.declared.reason.Reason.TheVariants.{Foreign, Stale, Unfit}
use Rattle.roc_readonly.specs.Round.{first_round}
use Rattle.roc_law_world.specs.Happens.{Outcome, IsSubmissionOf, undecided, served, coordinated, IsServed, IsReceived, StopsIn, at_rest, unrecorded, recorded, IsStopped}
use Rattle.roc_law_world.specs.Run.{Transition}
use Rattle.roc_law_world.specs.Beside.{is_of_view, IsBeside}
use Rattle.roc_law_world.proofs.Sent.{AreOfTransactions}
use Rattle.roc_law_world.proofs.ServerSends as server_sends
use Rattle.roc_law_world.proofs.IgnoredRuns.{ignored_runs}
use Rattle.roc_law_world.proofs.Coordinators.{IsCoordSound}
use Rattle.roc_law_world.proofs.CoordSteps.{IsForTransactions, for_transactions, are_marks}
use Rattle.roc_law_world.proofs.AsideSteps.{starts_kept}
use Rattle.roc_law_world.proofs.Readings.{ViewLaws, AreSteady}
use Rattle.roc_law_world.proofs.ViewMeans.{TellsCalls, proc_of, args_of, is_view_id, ViewsMean}
use Rattle.roc_law_world.proofs.ViewsStay.{goes_on}
use Rattle.roc_law_world.proofs.ViewServed.{views_served}
use Rattle.roc_law_world.proofs.RoundReads.{again_are, no_looks}
use Rattle.roc_law_world.proofs.ViewRounds.{view_submitted, view_ticked}
use Rattle.roc_law_world.proofs.ReadOksTaken.{readok_waits, readok_goes_on, readok_ends}
use Rattle.roc_law_world.proofs.BesideRuns.{GoesOnBeside, goes_on_still, goes_on_at}
use Rattle.roc_step.specs.Restarts.{without_reads, cut_short, cut_reads}
use Rattle.roc_law_protocol.specs.declared.event.Kept.{Kept}
use Rattle.roc_audit.specs.Order.{noted}
use Rattle.roc_law_world.proofs.Stops.{rest_is, rest_loses, cut_loses, tick_is_sends, starts_there, stop_keeps}
use Rattle.roc_law_world.proofs.Losing.{loses_means}
use Rattle.roc_law_protocol.proofs.Stops.{set_there}
use Rattle.roc_law_protocol.proofs.Changed.{get-set_here}

module _ (plan : Plan) (calls : TxnId → whole.Call) (asked : TxnId → whole.Call) (S : Scheme) (start : protocol.Beginning) (before : ℕ → Counts) where
  abbrev Mean : World → Log → Type 0
  Mean w log = ViewsMean plan calls asked S start before w log

  abbrev is_view : TxnId → Bool
  is_view = is_view_id plan calls

  module _ (is : IsSchemeOf plan asked S) (sound : IsSoundScheme S) (found : AreFound S start.store) (laws : ViewLaws plan) (steady : AreSteady S start.store)
      (grow : (a b : Log) → LogInvariants S start.store a → LogSteps S start.store a b → LogGrows S start.store a b)
      (some_group : (proc : ℕ) → is_view_of plan proc ≡ true → 0 < length (groups_of plan proc))
      (w : World) (log later : Log) (m : Mean w log) (i : LogInvariants S start.store log) (same_order : w.order ≡ log.order) where
    -- ---- any event

    -- whatever o is: beside a world with its order and its history, and a log that goes on, it holds of the world behind it
    abbrev Holds_behind : Outcome → Type 0
    Holds_behind o = (t : transactions.World) → IsBeside is_view o.world t → GoesOnBeside plan calls asked S start before t log later o.ran → Mean o.world later

    -- a message comes
    abbrev come : ℕ → World
    come k = mark_delivered w k

    mean_come : (k : ℕ) → Mean (mark_delivered w k) log
    mean_come k =
        goes_on plan calls asked S start before w (mark_delivered w k) log log (record {
          steps = no_steps;
          as_often = λ x. refl;
          viewing = refl;
          new = [];
          sent = sym (append-nil w.sent);
          of_transactions = λ e h. absurd h;
          looks = refl;
          told = [];
          history = sym (append-nil w.history);
          silent = λ id reply v h. h;
          ts = [];
          order = sym (append-nil w.order);
          views = λ n c at v h. (c, at, h);
          given = m.given;
          answers = m.told;
          numbers = m.numbers;
        }) m

    -- of the history beside an entry of a view is none
    dropped : (h told : List Entry) → without_views is_view told ≡ [] → without_views is_view (h ++ told) ≡ without_views is_view h
    dropped h told none = filter-append (λ e. not (is_view (entry_id e))) h told ∙ (ap (λ l. without_views is_view h ++ l) none ∙ append-nil (without_views is_view h))

    -- the same world by the later log, where nothing ran
    mean_later : (k : ℕ) (t : transactions.World) → t.history ≡ without_views is_view w.history → t.order ≡ w.order → GoesOnBeside plan calls asked S start before t log later [] → Mean (mark_delivered w k) later
    mean_later k t history order g =
        goes_on_still plan calls asked S start before is sound found laws steady grow some_group w log later m i same_order (mark_delivered w k) t history order g refl [] (sym (append-nil w.sent)) (λ e h. absurd h) refl [] (sym (append-nil w.history)) (λ id reply v h. h) refl refl

    mean_now : (t : transactions.World) → t.history ≡ without_views is_view w.history → t.order ≡ w.order → GoesOnBeside plan calls asked S start before t log later [] → Mean w later
    mean_now t history order g =
        goes_on_still plan calls asked S start before is sound found laws steady grow some_group w log later m i same_order w t history order g refl [] (sym (append-nil w.sent)) (λ e h. absurd h) refl [] (sym (append-nil w.history)) (λ id reply v h. h) refl refl

    -- nothing happens
    pub nothing_happens : (what : _) → Holds_behind (undecided what w)
    nothing_happens what t b g = mean_now t b.history b.order g

    -- ---- a submission

    module _ (n : ℕ) (s : CoordState) (there : slice_get w.coords n ≡ Some s) (proc : ℕ) (args : List ℤ) where
      submits_transaction : (o : Outcome) → Holds_behind (undecided (seen.Submitted (next_id s)) (at_coord w n (accepted plan s (new_transaction s proc args)).state (accepted plan s (new_transaction s proc args)).sends (entry.Submitted (next_id s) proc args ∷ [])))
      submits_transaction o t b g =
          let x = new_transaction s proc args in
          goes_on_at plan calls asked S start before is sound found laws steady grow some_group w log later m i same_order (at_coord w n (accepted plan s x).state (accepted plan s x).sends (entry.Submitted (next_id s) proc args ∷ [])) t b.history b.order g refl
          (map (sent_by (Coord n)) (accepted plan s x).sends) refl
          (λ e h. let p = from_has_map (sent_by (Coord n)) e (accepted plan s x).sends h in ap (λ (e : Envelope). is_of_view e.msg) p.2 ∙ starts_kept plan x p.0 p.1)
          (ap (λ l. w.looks ++ l) (no_looks (length w.order) (accepted plan s x).sends (starts_kept plan x)) ∙ append-nil w.looks)
          (entry.Submitted (next_id s) proc args ∷ []) refl (λ id reply v h. silent id reply h)
          n s (accepted plan s x).state there refl refl refl (omega arith)
          (λ y p a h. let same : y ≡ next_id s = the_id y (next_id s) p proc a args (has_one (entry.Submitted y p a) (entry.Submitted (next_id s) proc args) h) in
          (ap (λ (t : TxnId). t.coord) same ∙ m.numbers n s there, (let q = ap (λ (t : TxnId). t.seq) same in omega arith)))
        where
          the_id : (a b : TxnId) (p q : ℕ) (x y : List ℤ) → entry.Submitted a p x ≡ entry.Submitted b q y → a ≡ b
          the_id a b p q x y e = cc

          silent : (id : TxnId) (reply : List ℤ) → ¬ Has (entry.Answered id reply) (entry.Submitted (next_id s) proc args ∷ [])
          silent id reply (inl e) = apart e
            where
              apart : entry.Answered id reply ≢ entry.Submitted (next_id s) proc args
              apart e = cc
          silent id reply (inr h) = h

      submits_view : is_view_of plan proc ≡ true → proc ≡ proc_of plan calls (next_id s) → args ≡ args_of plan calls (next_id s)
          → Holds_behind (undecided (seen.Submitted (next_id s)) (at_coord w n (accepted_view plan s (first_round (next_id s) proc args)).state (reads_of plan (first_round (next_id s) proc args)) (entry.Submitted (next_id s) proc args ∷ [])))
      submits_view viewed procedure arguments t b g =
          let now = mean_now t (b.history ∙ dropped w.history (entry.Submitted (next_id s) proc args ∷ []) (ap (λ c. cond (not c) (entry.Submitted (next_id s) proc args ∷ []) []) (ap (is_view_of plan) (sym procedure) ∙ viewed))) b.order g in
          view_submitted plan calls asked S start before w later now (sym b.order ∙ g.means.order) g.reached n s there proc args procedure arguments viewed (some_group proc viewed)

      pub submits_views : (o : Outcome) → TellsCalls calls o.world.history → IsSubmissionOf w n proc args (after_submit plan s proc args) o → Holds_behind o
      submits_views o tells k = go (refusal_of plan s proc args) k
        where
          kinds : (b : Bool) → is_view_of plan proc ≡ b → IsSubmissionOf w n proc args (if b then accepted_view plan s (first_round (next_id s) proc args) else accepted plan s (new_transaction s proc args)) o → Holds_behind o
          kinds true viewed k =
              let told = tells (next_id s) proc args (subst (λ (o : Outcome). Has (entry.Submitted (next_id s) proc args) o.world.history) (sym k) (has_right (entry.Submitted (next_id s) proc args) w.history (entry.Submitted (next_id s) proc args ∷ []) (inl refl))) in
              subst Holds_behind (sym k) (submits_view viewed told.0 told.1)
          kinds false viewed k = subst Holds_behind (sym k) (submits_transaction o)

          go : (r : Option SubmitFault) → IsSubmissionOf w n proc args (refused_or_accepted plan s proc args r) o → Holds_behind o
          go None k = kinds (is_view_of plan proc) refl k
          go (Some fault.Spent) k = subst Holds_behind (sym k) (nothing_happens seen.Spent)
          go (Some fault.Busy) k = subst Holds_behind (sym k) (nothing_happens seen.Busy)
          go (Some fault.NoProc) k = absurd k
          go (Some fault.Args) k = absurd k
          go (Some fault.NoMemory) k = absurd k

    -- ---- a message comes to a server

    runs_told : (n : ℕ) (es : List StartedGroup) → map (λ r. entry_run r.group) (map (ran_at n) es) ≡ map entry_run es
    runs_told n [] = refl
    runs_told n (e ∷ es) = ap (λ l. entry_run e ∷ l) (runs_told n es)

    -- whatever t is beside, with the order and the servers then
    taken_means : (k : ℕ) (e : Envelope) → Has e w.sent → (n : ℕ) → e.to ≡ Server (record { 0 = n }) → (s : ServerState) (z : Viewing) (r : ServerStep) (q : ReadStep) → slice_get w.servers n ≡ Some s → slice_get w.viewing n ≡ Some z → server.Handles plan s e.msg r
        → AnswersReads plan z e.msg r q → (t : transactions.World) → t.servers ≡ slice_set w.servers n r.state → t.order ≡ noted w.order r.decided → GoesOnBeside plan calls asked S start before t log later (map (ran_at n) r.ran) → Mean (at_server (mark_delivered w k) n r q) later
    taken_means k e has n to s z r q there keeps handles answers t servers order g =
        let grown = g.grows.order in
        views_served plan calls asked S start before is sound found laws (mark_delivered w k) log later (mean_come k) g.steps i g.reached g.grows n z keeps e has to r q answers
        (subst (λ (r : ServerStep). AreOfTransactions r.sends) (sym handles.is) (server_sends.message_of_transactions plan s handles.findings e.msg))
        (subst (λ (r : ServerStep). is_taken r.answer ≡ false → r.ran ≡ []) (sym handles.is) (ignored_runs plan s handles.findings e.msg))
        (g.means.servers n r.state (subst (λ l. slice_get l n ≡ Some r.state) (sym servers) (get-set_here w.servers n s r.state there)))
        (g.groups ∙ ap (λ l. log.past.ran ++ l) (runs_told n r.ran))
        (λ d h. g.each (ran_at n d) (has_map (ran_at n) d r.ran h))
        grown.0 (sym order ∙ (g.means.order ∙ (grown.1 ∙ ap (λ l. l ++ grown.0) (sym same_order))))

    pub server_takes : (k : ℕ) (e : Envelope) → Has e w.sent → (n : ℕ) → e.to ≡ Server (record { 0 = n }) → (o : Outcome) → IsServed plan (mark_delivered w k) e.msg n o → Holds_behind o
    server_takes k e has n to o x =
        subst Holds_behind (sym x.is) (λ t b g. taken_means k e has n to x.state x.viewing x.step x.reads x.there x.keeps x.handles x.answers t b.servers b.order g)

    -- ---- a message comes to a coordinator

    module _ (k : ℕ) (n : ℕ) (s : CoordState) (there : slice_get w.coords n ≡ Some s) where
      -- it does nothing
      keeps_all : (r : CoordStep) → r.state ≡ s → r.sends ≡ [] → (reason : Reason) → r.answer ≡ coord_answer.Ignored reason → Holds_behind (coordinated (mark_delivered w k) n r)
      keeps_all r state outs reason given t b g =
          let none : answer_entries r.answer ≡ [] = ap answer_entries given in
          goes_on_at plan calls asked S start before is sound found laws steady grow some_group w log later m i same_order (at_coord (mark_delivered w k) n r.state r.sends (answer_entries r.answer)) t b.history b.order g refl (map (sent_by (Coord n)) r.sends) refl
          (λ e h. absurd (subst (λ l. Has e (map (sent_by (Coord n)) l)) outs h))
          (ap (λ l. w.looks ++ looks_in (length w.order) l) outs ∙ append-nil w.looks)
          (answer_entries r.answer) refl (λ id reply v h. subst (λ l. Has (entry.Answered id reply) l) none h)
          n s r.state there refl (ap (λ (c : CoordState). c.views) state) (ap (λ (c : CoordState). c.number) state) (let q = ap (λ (c : CoordState). c.next) state in omega arith)
          (λ x p a h. absurd (subst (λ l. Has (entry.Submitted x p a) l) none h))

      -- it is of transactions
      takes_transaction : (own : IsCoordSound is_view s) (r : CoordStep) → IsForTransactions plan is_view s own r → Holds_behind (coordinated (mark_delivered w k) n r)
      takes_transaction own r f t b g =
          goes_on_at plan calls asked S start before is sound found laws steady grow some_group w log later m i same_order (at_coord (mark_delivered w k) n r.state r.sends (answer_entries r.answer)) t b.history b.order g refl (map (sent_by (Coord n)) r.sends) refl
          (λ e h. let p = from_has_map (sent_by (Coord n)) e r.sends h in ap (λ (e : Envelope). is_of_view e.msg) p.2 ∙ f.sends p.0 p.1)
          (ap (λ l. w.looks ++ l) (no_looks (length w.order) r.sends f.sends) ∙ append-nil w.looks)
          (answer_entries r.answer) refl
          (λ id reply v h. let q = from_has_filter (λ e. not (is_view (entry_id e))) (entry.Answered id reply) (answer_entries r.answer) (subst (λ l. Has (entry.Answered id reply) l) (sym f.told) h) in false≢true (sym (ap not v) ∙ q.1))
          n s r.state there refl f.views f.number (let q = f.next in omega arith)
          (λ x p a h. absurd (not_told r.answer x p a h))
        where
          not_told : (a : Handled) (x : TxnId) (p : ℕ) (l : List ℤ) → ¬ Has (entry.Submitted x p l) (answer_entries a)
          not_told (coord_answer.Answered id reply) x p l (inl e) = apart e
            where
              apart : entry.Submitted x p l ≢ entry.Answered id reply
              apart e = cc
          not_told (coord_answer.Answered id reply) x p l (inr h) = h
          not_told coord_answer.Done x p l h = h
          not_told (coord_answer.Ignored reason) x p l h = h

      -- it answers a read
      module _ (e : Envelope) (has : Has e w.sent) (id : TxnId) (round group : ℕ) (shard : Shard) (vs : List ℕ) (outs : List ℤ) (is_ok : e.msg ≡ ReadOk id round group shard vs outs) where
        abbrev ok : TakenRead
        ok = record { group = group; versions = vs; outs = outs }

        module _ (v : View) (kept : Has v s.views) (same : v.id ≡ id) where
          its : round ≡ v.round → e.msg ≡ ReadOk v.id v.round group shard vs outs
          its r = is_ok ∙ (ap (λ t. ReadOk t round group shard vs outs) (sym same) ∙ ap (λ c. ReadOk v.id c group shard vs outs) r)

          -- what comes of the round
          round_ends : round ≡ v.round → (b : Round) → round_of plan (with_readok v (record { group = group; versions = vs; outs = outs })) ≡ b
              → Holds_behind (coordinated (mark_delivered w k) n (readok_taken plan s (with_readok v (record { group = group; versions = vs; outs = outs })) b))
          round_ends r Waits f t b g =
              let now = mean_later k t (b.history ∙ ap (without_views is_view) (append-nil w.history)) b.order g in
              readok_waits plan calls asked S start before (mark_delivered w k) later now (sym b.order ∙ g.means.order) g.reached n s there v kept e has group shard vs outs (its r)
          round_ends r GoesOn f t b g =
              let now = mean_later k t (b.history ∙ ap (without_views is_view) (append-nil w.history)) b.order g in
              readok_goes_on plan calls asked S start before (mark_delivered w k) later now (sym b.order ∙ g.means.order) g.reached n s there v kept e has group shard vs outs (its r)
              (some_group v.proc (ap (is_view_of plan) (now.views n s there v kept).procedure ∙ (now.views n s there v kept).view))
          round_ends r (Ends reply) f t b g =
              let p = ends_so (with_readok v ok) reply f in
              let viewed = (m.views n s there v kept).view in
              let none : without_views is_view (entry.Answered v.id reply ∷ []) ≡ [] = ap (λ c. cond (not c) (entry.Answered v.id reply ∷ []) []) viewed in
              let now = mean_later k t (b.history ∙ dropped w.history (entry.Answered v.id reply ∷ []) none) b.order g in
              subst (λ l. Mean (at_coord (mark_delivered w k) n (without_view s v.id) (answered_sends plan s (without_view s v.id)) (entry.Answered v.id l ∷ [])) later) (sym p.1)
              (readok_ends plan calls asked S start before (mark_delivered w k) later now (sym b.order ∙ g.means.order) g.reached n s there v kept e has group shard vs outs (its r) is sound found laws steady grow p.0
              (answered_sends plan s (without_view s v.id)) (are_marks plan s (without_view s v.id)))
            where
              ends_so : (x : View) (reply : List ℤ) → round_of plan x ≡ Ends reply → (is_steady plan x ≡ true) × (reply ≡ view_reply plan x)
              ends_so x reply f = full (is_full plan x) f
                where
                  steadily : (c : Bool) → is_steady plan x ≡ c → (if c then Ends (view_reply plan x) else if x.round == last_round then Waits else GoesOn) ≡ Ends reply → (is_steady plan x ≡ true) × (reply ≡ view_reply plan x)
                  steadily true h f = (h, the_reply f)
                    where
                      the_reply : Ends (view_reply plan x) ≡ Ends reply → reply ≡ view_reply plan x
                      the_reply f = cc
                  steadily false h f = absurd (last (x.round == last_round) f)
                    where
                      last : (d : Bool) → (if d then Waits else GoesOn) ≡ Ends reply → ⊥
                      last true f = cc
                      last false f = cc

                  full : (c : Bool) → (if not c then Waits else if is_steady plan x then Ends (view_reply plan x) else if x.round == last_round then Waits else GoesOn) ≡ Ends reply → (is_steady plan x ≡ true) × (reply ≡ view_reply plan x)
                  full true f = steadily (is_steady plan x) refl f
                  full false f = absurd (cc)

          judged : (x : Option Reason) → readok_refusal plan v round (record { group = group; versions = vs; outs = outs }) shard ≡ x
              → Holds_behind (coordinated (mark_delivered w k) n (unless_refused s x (readok_taken plan s (with_readok v (record { group = group; versions = vs; outs = outs })) (round_of plan (with_readok v (record { group = group; versions = vs; outs = outs }))))))
          judged (Some reason) f = keeps_all (ignored s reason) refl refl reason refl
          judged None f = round_ends (current (round == v.round) refl f) (round_of plan (with_readok v ok)) refl
            where
              current : (c : Bool) → (round == v.round) ≡ c → (if not c then Some Stale else if is_some (find_read group v.got) then Some Stale else if not (is_fit_readok plan v ok shard) then Some Unfit else None) ≡ None → round ≡ v.round
              current true h f = eqb-true round v.round h
              current false h f = absurd (cc)

        pub takes_readok : (x : Option View) → find_view id s.views ≡ x → Holds_behind (coordinated (mark_delivered w k) n (after_readok plan s id x round (record { group = group; versions = vs; outs = outs }) shard))
        takes_readok None f = keeps_all (ignored s (unread (find_transaction id s.pending))) refl refl (unread (find_transaction id s.pending)) refl
        takes_readok (Some v) f =
            let q = found_has (λ (v : View). is_txn v.id id) s.views v f in
            judged v q.0 (is_txn-true v.id id q.1) (readok_refusal plan v round ok shard) refl

      pub coord_takes : IsCoordSound is_view s → (e : Envelope) → Has e w.sent → Holds_behind (coordinated (mark_delivered w k) n (after_message plan s e.msg))
      coord_takes own e has = go e.msg refl (is_of_view e.msg) refl
        where
          go : (msg : Msg) → e.msg ≡ msg → (b : Bool) → is_of_view msg ≡ b → Holds_behind (coordinated (mark_delivered w k) n (after_message plan s msg))
          go msg f false v = takes_transaction own (after_message plan s msg) (for_transactions plan is_view s own msg v)
          go (ReadOk id round group shard vs outs) f true v = takes_readok e has id round group shard vs outs f (find_view id s.views) refl
          go (StartOk id group shard bound outs edges facts) f true v = absurd (false≢true v)
          go (CommitOk id shard outs) f true v = absurd (false≢true v)
          go msg f true v = keeps_all (ignored s Foreign) refl refl Foreign refl

    -- ---- a tick

    pub server_ticks : (n : ℕ) (s : ServerState) (v : Viewing) → slice_get w.servers n ≡ Some s → slice_get w.viewing n ≡ Some v
        → Holds_behind (served w n (answered s (server.tick_sends s)) (record { viewing = v; sends = [] }))
    server_ticks n s v there keeps t b g =
        let outs = (answered s (server.tick_sends s)).sends ++ [] in
        goes_on_still plan calls asked S start before is sound found laws steady grow some_group w log later m i same_order (at_server w n (answered s (server.tick_sends s)) (record { viewing = v; sends = [] })) t b.history b.order g (set_there w.viewing n v keeps)
        (map (sent_by (Server (record { 0 = n }))) outs) refl
        (λ e h. let p = from_has_map (sent_by (Server (record { 0 = n }))) e outs h in
        ap (λ (e : Envelope). is_of_view e.msg) p.2 ∙ server_sends.tick_of_transactions plan s p.0 (subst (λ l. Has p.0 l) (append-nil (server.tick_sends s)) p.1))
        refl [] (sym (append-nil w.history)) (λ id reply v h. h) refl refl

    pub coord_ticks : (n : ℕ) (s : CoordState) → slice_get w.coords n ≡ Some s → Holds_behind (undecided seen.Done (at_coord_tick w n (tick_sends plan s)))
    coord_ticks n s there t b g =
        view_ticked plan calls asked S start before w later (mean_now t b.history b.order g) (sym b.order ∙ g.means.order) g.reached n s there (tick_sends plan s) (again_are plan n s)

    -- ---- a stop

    -- behind the step that is cut short, by the later log
    cut_means : (n : ℕ) (s : ServerState) (z : Viewing) → slice_get w.servers n ≡ Some s → slice_get w.viewing n ≡ Some z → (during : Option (ℕ × Kept)) (u : World) (step : ServerStep) (reads : ReadStep) → StopsIn plan w n s z during u step reads
        → (t : transactions.World) → t.servers ≡ (at_server u n step reads).servers → t.order ≡ (at_server u n step reads).order → t.history ≡ without_views is_view w.history → GoesOnBeside plan calls asked S start before t log later (map (ran_at n) step.ran)
        → Mean (at_server u n step reads) later
    cut_means n s z there keeps during u step reads at_rest t servers order history g =
        subst (λ v. Mean v later) (sym (rest_is w n s z there))
        (loses_means plan calls asked S start before w later w.sent w.undelivered (slice_set w.viewing n (without_reads z)) (rest_loses w n z keeps) (mean_now t history order g))
    cut_means n s z there keeps during u step reads (unrecorded k m sent) t servers order history g =
        subst (λ v. Mean v later) (sym (rest_is (mark_delivered w k) n s z there))
        (loses_means plan calls asked S start before (mark_delivered w k) later w.sent (mark_delivered w k).undelivered (slice_set w.viewing n (without_reads z)) (rest_loses (mark_delivered w k) n z keeps) (mean_later k t history order g))
    cut_means n s z there keeps during u step reads (recorded k many e r q sent handles answers) t servers order history g =
        let v = at_server (mark_delivered w k) n (cut_short many r) (cut_reads many r q) in
        loses_means plan calls asked S start before (at_server (mark_delivered w k) n r q) later v.sent v.undelivered v.viewing (cut_loses (mark_delivered w k) n many r q z keeps)
        (taken_means k e (has_at w.sent (k - 1) e sent.there) n sent.to s z r q there keeps handles answers t servers order g)

    -- and behind the tick
    stop_means : (n : ℕ) (during : Option (ℕ × Kept)) (o : Outcome) → IsStopped plan w n during o → Holds_behind o
    stop_means n during o x t b g =
        let v = at_server x.before n x.step x.reads in
        let s = x.step.state in
        let u = at_server v n (answered s (server.tick_sends s)) (record { viewing = x.reads.viewing; sends = [] }) in
        let outs = server.tick_sends s ++ [] in
        let behind = subst (λ (o : Outcome). IsBeside is_view o.world t) x.is b in
        let on = subst (λ ran. GoesOnBeside plan calls asked S start before t log later ran) (ap (λ (o : Outcome). o.ran) x.is) g in
        let here = starts_there plan w n during o x in
        let mean = cut_means n x.state x.viewing x.there x.keeps during x.before x.step x.reads x.stops t behind.servers behind.order (b.history ∙ ap (without_views is_view) (stop_keeps plan w n during o x).0) on in
        let rests : GoesOnBeside plan calls asked S start before t later later [] =
        record { steps = no_steps; reached = g.reached; grows = grow later later g.reached no_steps; means = g.means; groups = sym (append-nil later.past.ran); each = λ r h. absurd h; ordered = g.ordered } in
        subst (λ (o : Outcome). Mean o.world later) (sym x.is)
        (subst (λ v. Mean v later) (tick_is_sends v n s x.reads.viewing (server.tick_sends s) here.0 here.1)
        (goes_on_still plan calls asked S start before is sound found laws steady grow some_group v later later mean g.reached (sym behind.order ∙ g.means.order) u t behind.history behind.order rests (set_there v.viewing n x.reads.viewing here.1)
        (map (sent_by (Server (record { 0 = n }))) outs) refl
        (λ e h. let p = from_has_map (sent_by (Server (record { 0 = n }))) e outs h in
        ap (λ (e : Envelope). is_of_view e.msg) p.2 ∙ server_sends.tick_of_transactions plan s p.0 (subst (λ l. Has p.0 l) (append-nil (server.tick_sends s)) p.1))
        refl [] (sym (append-nil x.before.history)) (λ id reply v h. h) refl refl))

    -- ---- all of them

    pub views_step : (sounds : (n : ℕ) (s : CoordState) → slice_get w.coords n ≡ Some s → IsCoordSound is_view s) → (e : Option Event) (o : Outcome) → Transition plan w e o → TellsCalls calls o.world.history → Holds_behind o
    views_step sounds None o h tells = subst Holds_behind (sym h) (nothing_happens seen.Done)
    views_step sounds (Some (Submit n proc args)) o h tells = submits_views n h.0 h.1 proc args o tells h.2
    views_step sounds (Some (Deliver k)) o h tells = go h.0.to refl h.3
      where
        has : Has h.0 w.sent
        has = has_at w.sent (k - 1) h.0 h.2

        go : (to : Node) → h.0.to ≡ to → IsReceived plan (mark_delivered w k) h.0.msg to o → Holds_behind o
        go (Server shard) f x = server_takes k h.0 has shard.0 f o x
        go (Coord n) f x = subst Holds_behind (sym x.2) (coord_takes k n x.0 x.1 (sounds n x.0 x.1) h.0 has)
    views_step sounds (Some (Tick (Server shard))) o h tells = subst Holds_behind (sym h.4) (server_ticks shard.0 h.0 h.1 h.2 h.3)
    views_step sounds (Some (Tick (Coord n))) o h tells = subst Holds_behind (sym h.2) (coord_ticks n h.0 h.1)
    views_step sounds (Some (Stop shard during)) o x tells = λ t b g. stop_means shard.0 during o x t b g
