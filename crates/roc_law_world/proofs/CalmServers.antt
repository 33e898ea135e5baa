-- A server takes a message, or time passes for it: open views stay as they have to be
use Rattle.std.proofs.Common.{◌≡◌, ◌≢◌, ◌∙◌, ◌⊎◌, inl, inr, ℕ, ℤ, ◌-◌, ◌<◌, ◌==◌, Bool, true, false, not, List, [], ◌∷◌, ◌++◌, Some, None, map, length, refl, sym, ap, subst, append-nil}
use Rattle.std.proofs.lemmas.Bool.{cases_eq, lt-ltb, eq-eqb, and_from, false_from_ne_true}
use Rattle.std.proofs.lemmas.List.{length-map}
use Rattle.std.specs.Prelude.{slice_get, slice_set, nat_lt}
use Rattle.roc_sequence.specs.Lists.{Has}
use Rattle.roc_sequence.proofs.Members.{has_append, has_left, has_right, has_map, from_has_map, has_at, same_there}
use Rattle.roc_base.specs.declared.id.TxnId.{TxnId}
use Rattle.roc_base.specs.declared.node.Node.TheVariants.{Server, Coord}
use Rattle.roc_base.specs.declared.node.Shard.{Shard}
use Rattle.roc_msg.specs.declared.msg.Msg.{Msg}
use Rattle.roc_msg.specs.declared.msg.Msg.TheVariants.{Read, ReadOk}
use Rattle.roc_msg.specs.declared.msg.Envelope.{Envelope}
use Rattle.roc_msg.specs.declared.outbox.Outgoing.{Outgoing}
use Rattle.roc_msg.specs.declared.reason.Reason.TheVariants.{BadProc, BadGroup, BadInputs, NotHere}
use Rattle.roc_rows.specs.Versions.{Counts, version}
use Rattle.roc_plan.specs.Groups.{Plan, procedure_of, groups_of, shard_of, group_place, is_view_of, bound_of, outs_of}
use Rattle.roc_plan.specs.Accepted.{IsAccepted}
use Rattle.roc_group.specs.declared.access.Access.{Access}
use Rattle.roc_group.specs.GroupRun.{group_run}
use Rattle.roc_step.specs.Below.{is_ended}
use Rattle.roc_step.specs.State.{answered, first_answer, ServerState, ServerStep, Viewing}
use Rattle.roc_step.specs.declared.handled.Handled.TheVariants as server_answer
use Rattle.roc_step.specs.declared.kept_read.KeptRead.{KeptRead}
use Rattle.roc_step.specs.Runs.{accesses_of}
use Rattle.roc_step.specs.Reads.{is_taken, read_call, read_uses, read_refusal, read_judged, with_accesses, reads_with, readok_of, ReadStep}
use Rattle.roc_step.specs.Step as server
use Rattle.roc_coord.specs.State.{CoordState}
use Rattle.roc_readonly.specs.declared.view.View.{View}
use Rattle.roc_readonly.specs.Round.{read_shard}
use Rattle.roc_audit.specs.History.{WasSubmitted}
use Rattle.roc_law_protocol.specs.World.{sent_by}
use Rattle.roc_law_world.specs.World.{World, mark_delivered, at_server}
use Rattle.roc_law_world.specs.Happens.{Outcome, IsServed}
use Rattle.roc_law_world.proofs.Sent.{AreOfTransactions}
use Rattle.roc_law_world.proofs.ServerSends as server_sends
use Rattle.roc_law_world.proofs.ServerMarks.{IsAbove, KeepsMarks, keeps_marks, tick_marks}
use Rattle.roc_law_world.proofs.ViewServed.{with_cases}
use Rattle.roc_law_world.proofs.ReadCounts.{uses_counted}
use Rattle.roc_law_world.proofs.KeptReads.{was_there, kept_or_told, kept_was, ignored_was, told_is, kept_is_held, brought}
use Rattle.roc_law_world.proofs.Comings.{came_sends, came_or_comes}
use Rattle.roc_law_world.proofs.Calm.{IsPassed, IsOfSubmitted, transactions_submitted, read_of, IsFor, Fits, transactions_fit, IsKept, IsTold, Done, IsCalm, KeepsHeld, AreCalm, calm_on, open_not_passed}
use Rattle.roc_law_protocol.proofs.Stops.{set_there}
use Rattle.roc_law_protocol.proofs.Changed.{get-set_here, get-set_other, get-set_cases}
use Rattle.roc_law_plans.proofs.OfPlan.{group_long}

the_server : (a b : ℕ) → Server (record { 0 = a }) ≡ Server (record { 0 = b }) → a ≡ b
the_server a b e = ap (λ (s : Shard). s.0) (the_shard (record { 0 = a }) (record { 0 = b }) e)
  where
    the_shard : (a b : Shard) → Server a ≡ Server b → a ≡ b
    the_shard a b e = cc

module _ (plan : Plan) (accepted : IsAccepted plan) (w : World) (a : AreCalm plan w) where
  -- ---- a message comes to a server

  module _ (k : ℕ) (some : 0 < k) (e : Envelope) (stands : slice_get w.sent (k - 1) ≡ Some e) (n : ℕ) (to : e.to ≡ Server (record { 0 = n })) (o : Outcome)
      (x : IsServed plan (mark_delivered w k) e.msg n o) where
    abbrev s : ServerState
    s = x.state

    abbrev z : Viewing
    z = x.viewing

    abbrev r : ServerStep
    r = x.step

    abbrev q : ReadStep
    q = x.reads

    abbrev u : World
    u = at_server (mark_delivered w k) n x.step x.reads

    abbrev counts : Counts
    counts = with_accesses x.viewing.versions (accesses_of x.step.ran)

    abbrev new : List Envelope
    new = map (sent_by (Server (record { 0 = n }))) (x.step.sends ++ x.reads.sends)

    has : Has e w.sent
    has = has_at w.sent (k - 1) e stands

    marks : KeepsMarks x.state e.msg x.step
    marks = subst (KeepsMarks x.state e.msg) (sym x.handles.is) (keeps_marks plan x.state x.handles.findings e.msg)

    ours : AreOfTransactions x.step.sends
    ours = subst (λ (r : ServerStep). AreOfTransactions r.sends) (sym x.handles.is) (server_sends.message_of_transactions plan x.state x.handles.findings e.msg)

    -- what is sent is of transactions, or answers a read
    new_messages : (P : Envelope → Type 0) → ((out : Outgoing) → Has out x.step.sends → P (sent_by (Server (record { 0 = n })) out))
        → ((y : KeptRead) → Has y (reads_with e.msg x.step.answer x.viewing.reads)
        → P (sent_by (Server (record { 0 = n })) (readok_of plan x.step.state (with_accesses x.viewing.versions (accesses_of x.step.ran)) y)))
        → (m : Envelope) → Has m (map (sent_by (Server (record { 0 = n }))) (x.step.sends ++ x.reads.sends)) → P m
    new_messages P plain oks m h =
        let p = from_has_map (sent_by (Server (record { 0 = n }))) m (r.sends ++ q.sends) h in
        subst P (sym p.2) (elim (has_append p.0 r.sends q.sends p.1) [
          | inl j ↦ plain p.0 j
          | inr j ↦ (let t = told_is plan z e.msg r q x.answers p.0 j in subst (λ out. P (sent_by (Server (record { 0 = n })) out)) (sym t.2) (oks t.0 t.1))
        ])

    with_submitted : (y : KeptRead) → Has y (reads_with e.msg x.step.answer x.viewing.reads) → WasSubmitted w.history y.id
    with_submitted y h = elim (with_cases y e.msg r.answer z.reads h) [
      | inl j ↦ (a.kept n z x.keeps y j).submitted
      | inr is ↦ subst (IsOfSubmitted w.history) is (a.messages e has)
    ]

    -- ---- an open view

    module _ (m : ℕ) (c : CoordState) (at : slice_get w.coords m ≡ Some c) (v : View) (h : Has v c.views) where
      abbrev calm : IsCalm plan w v
      calm = a.views m c at v h

      message_for : (id : TxnId) (round proc group : ℕ) (args : List ℤ) → e.msg ≡ Read id round proc group args → id ≡ v.id → IsFor plan v round proc group args n
      message_for id round proc group args is same =
          let f = subst (λ msg. Fits plan v msg e.to) is (calm.messages e has) same in
          subst (IsFor plan v round proc group args) (the_server f.0 n (sym f.1 ∙ to)) f.2

      with_for : (y : KeptRead) → Has y (reads_with e.msg x.step.answer x.viewing.reads) → y.id ≡ v.id → IsFor plan v y.round y.proc y.group y.args n
      with_for y j same = elim (with_cases y e.msg r.answer z.reads j) [
        | inl old ↦ calm.kept n z x.keeps y old same
        | inr is ↦ message_for y.id y.round y.proc y.group y.args is same
      ]

      -- an answer has the plan's counts
      ok_fits : (y : KeptRead) → Has y (reads_with e.msg x.step.answer x.viewing.reads)
          → Fits plan v (readok_of plan x.step.state (with_accesses x.viewing.versions (accesses_of x.step.ran)) y).msg (Coord y.id.coord)
      ok_fits y j same =
          let f = with_for y j same in
          let viewed = ap (is_view_of plan) f.procedure ∙ calm.view in
          let versions = map (λ (a : Access). version counts a.cell) (read_uses plan r.state y) in
          let outs = (group_run plan (read_call y) r.state.store).reply in
          let bound : length versions ≡ length (bound_of plan v.proc y.group) =
          length-map (read_uses plan r.state y) (λ (a : Access). version counts a.cell)
          ∙ (uses_counted plan (read_call y) r.state.store accepted viewed ∙ ap (λ p. length (bound_of plan p y.group)) f.procedure)
          in
          let given : length outs ≡ length (outs_of plan v.proc y.group) = group_long plan (read_call y) r.state.store ∙ ap (λ p. length (outs_of plan p y.group)) f.procedure in
          let here : (read_shard plan v y.group).0 ≡ r.state.shard.0 = f.here ∙ sym (ap (λ (s : Shard). s.0) marks.shard ∙ a.shards n s x.there) in (
            ap (λ (t : TxnId). Coord t.coord) same,
            record {
              until = f.until;
              fits = and_from (nat_lt y.group (length (groups_of plan v.proc))) _ (lt-ltb y.group (length (groups_of plan v.proc)) f.there)
                  (and_from ((read_shard plan v y.group).0 == r.state.shard.0) _ (eq-eqb (read_shard plan v y.group).0 r.state.shard.0 here)
                  (and_from (length versions == length (bound_of plan v.proc y.group)) (length outs == length (outs_of plan v.proc y.group))
                  (eq-eqb (length versions) (length (bound_of plan v.proc y.group)) bound) (eq-eqb (length outs) (length (outs_of plan v.proc y.group)) given)));
            },
          )

      new_fits : (d : Envelope) → Has d (w.sent ++ map (sent_by (Server (record { 0 = n }))) (x.step.sends ++ x.reads.sends)) → Has d w.sent ⊎ Fits plan v d.msg d.to
      new_fits d j = elim (has_append d w.sent new j) [
        | inl old ↦ inl old
        | inr now ↦ inr (new_messages (λ d. Fits plan v d.msg d.to) (λ out i. transactions_fit plan v out.msg out.to (ours out i)) (λ y i. ok_fits y i) d now)
      ]

      kept_for : (i : ℕ) (y : Viewing) → slice_get (slice_set w.viewing n x.reads.viewing) i ≡ Some y → (d : KeptRead) → Has d y.reads → d.id ≡ v.id → IsFor plan v d.round d.proc d.group d.args i
      kept_for i y there d j same = elim (get-set_cases w.viewing n i z q.viewing y x.keeps there) [
        | inl f ↦ subst (IsFor plan v d.round d.proc d.group d.args) f.0 (with_for d (kept_was plan z e.msg r q x.answers d (subst (λ (y : Viewing). Has d y.reads) f.1 j)) same)
        | inr f ↦ calm.kept i y f.1 d j same
      ]

      -- a read of the round that was kept, or comes, is kept or answered
      here_or_told : (g : ℕ) → n ≡ (read_shard plan v g).0 → Has (read_of v g) (reads_with e.msg x.step.answer x.viewing.reads)
          → IsKept plan (at_server (mark_delivered w k) n x.step x.reads).viewing v g ⊎ IsTold plan (at_server (mark_delivered w k) n x.step x.reads).sent v g
      here_or_told g here j = elim (kept_or_told plan z e.msg r q x.answers (read_of v g) j) [
        | inl f ↦ inl (q.viewing, subst (λ i. slice_get (slice_set w.viewing n q.viewing) i ≡ Some q.viewing) here (get-set_here w.viewing n z q.viewing x.keeps), f)
        | inr f ↦ inr (
          sent_by (Server (record { 0 = n })) (readok_of plan r.state counts (read_of v g)),
          has_right _ w.sent new (has_map (sent_by (Server (record { 0 = n }))) (readok_of plan r.state counts (read_of v g)) (r.sends ++ q.sends) (has_right _ r.sends q.sends f)),
          r.state.shard,
          map (λ (a : Access). version counts a.cell) (read_uses plan r.state (read_of v g)),
          (group_run plan (read_call (read_of v g)) r.state.store).reply,
          refl,
        )
      ]

      keeps : (g : ℕ) → IsKept plan w.viewing v g → IsKept plan (at_server (mark_delivered w k) n x.step x.reads).viewing v g ⊎ IsTold plan (at_server (mark_delivered w k) n x.step x.reads).sent v g
      keeps g (y, there, j) = elim (cases_eq n (read_shard plan v g).0) [
        | inl here ↦
            (let same : y ≡ z = same_there w.viewing n y z (subst (λ i. slice_get w.viewing i ≡ Some y) (sym here) there) x.keeps in
            here_or_told g here (was_there (read_of v g) e.msg r.answer z.reads (subst (λ (y : Viewing). Has (read_of v g) y.reads) same j)))
        | inr other ↦ inl (y, get-set_other w.viewing n (read_shard plan v g).0 q.viewing other ∙ there, j)
      ]

      -- a read that comes is taken
      taken : (id : TxnId) (round proc group : ℕ) (args : List ℤ) → e.msg ≡ Read id round proc group args → id ≡ v.id → x.step.answer ≡ server_answer.Done
      taken id round proc group args is same =
          let f = message_for id round proc group args is same in
          let open_ = false_from_ne_true (is_ended s.below id) (λ j. open_not_passed plan w a m c at v h (subst (λ t. IsPassed w.coords t) same (a.heard n s x.there id j))) in
          let viewed = ap (is_view_of plan) f.procedure ∙ calm.view in
          let there = lt-ltb group (length (groups_of plan proc)) (subst (λ p. group < length (groups_of plan p)) (sym f.procedure) f.there) in
          let counted = eq-eqb (length args) (procedure_of plan proc).arguments
          (ap (λ (l : List ℤ). length l) f.arguments ∙ (calm.counted ∙ ap (λ p. (procedure_of plan p).arguments) (sym f.procedure))) in
          let here = eq-eqb (shard_of plan (group_place plan proc group args [])) s.shard.0
          ((λ i. shard_of plan (group_place plan (f.procedure i) group (f.arguments i) [])) ∙ (f.here ∙ sym (a.shards n s x.there)))
          in
          let none : read_refusal plan s (record { id = id; round = round; proc = proc; group = group; args = args }) ≡ None =
          (λ i. first_answer ((open_ i, server_answer.Gone) ∷ (not (viewed i), server_answer.Ignored BadProc) ∷ (not (there i), server_answer.Ignored BadGroup) ∷
          (not (counted i), server_answer.Ignored BadInputs) ∷ (not (here i), server_answer.Ignored NotHere) ∷ []))
          in
          ap (λ (r : ServerStep). r.answer) (x.handles.is ∙ (ap (server.after_message plan s x.handles.findings) is ∙ ap (read_judged s) none))

      arrived : Done plan (at_server (mark_delivered w k) n x.step x.reads) v e.msg
      arrived = go e.msg refl
        where
          go : (msg : Msg) → e.msg ≡ msg → Done plan (at_server (mark_delivered w k) n x.step x.reads) v msg
          go (Read id round proc group args) is = λ same now.
              let f = message_for id round proc group args is same in
              let own : record { id = id; round = round; proc = proc; group = group; args = args } ≡ read_of v group =
              (λ i. record { id = same i; round = now i; proc = f.procedure i; group = group; args = f.arguments i }) in
              here_or_told group (sym f.here)
              (subst (λ d. Has d (reads_with e.msg r.answer z.reads)) own
              (brought plan z e.msg r q x.answers (record { id = id; round = round; proc = proc; group = group; args = args }) is (taken id round proc group args is same)))
          go (ReadOk id round group shard vs outs) is = λ same now. absurd (apart (record { 0 = n }) v.id.coord (sym to ∙ (subst (λ msg. Fits plan v msg e.to) is (calm.messages e has) same).0))
            where
              apart : (a : Shard) (b : ℕ) → Server a ≢ Coord b
              apart a b e = cc
          go msg is = tt

      served_view : IsCalm plan (at_server (mark_delivered w k) n x.step x.reads) v
      served_view =
          calm_on plan w u v (λ d j. has_left d w.sent new j) keeps new_fits kept_for
          (λ d j. elim (came_or_comes w k some e stands d (came_sends (mark_delivered w k) (Server (record { 0 = n })) (r.sends ++ q.sends) d j)) [
            | inl old ↦ inl old
            | inr now ↦ inr (subst (λ (d : Envelope). Done plan u v d.msg) (sym now) arrived)
          ])
          (λ j. j) calm

    -- ---- the world

    kept_held : (i : ℕ) (y : Viewing) → slice_get (slice_set w.viewing n x.reads.viewing) i ≡ Some y → (d : KeptRead) → Has d y.reads
        → KeepsHeld plan (at_server (mark_delivered w k) n x.step x.reads) i y d
    kept_held i y there d j = elim (get-set_cases w.viewing n i z q.viewing y x.keeps there) [
      | inl f ↦ subst (λ i. KeepsHeld plan u i y d) f.0 (here (subst (λ (y : Viewing). Has d y.reads) f.1 j) (is_taken r.answer) refl)
      | inr f ↦ (let b = a.kept i y f.1 d j in record { submitted = b.submitted; server = b.server; there = get-set_other w.servers n i r.state f.0 ∙ b.there; held = b.held })
    ]
      where
        now : slice_get (slice_set w.servers n x.step.state) n ≡ Some x.step.state
        now = get-set_here w.servers n s r.state x.there

        here : Has d x.reads.viewing.reads → (b : Bool) → is_taken x.step.answer ≡ b → KeepsHeld plan (at_server (mark_delivered w k) n x.step x.reads) n y d
        here l true f =
            record {
              submitted = with_submitted d (kept_was plan z e.msg r q x.answers d l);
              server = r.state;
              there = now;
              held = kept_is_held plan z e.msg r q x.answers f d l;
            }
        here l false f =
            let b = a.kept n z x.keeps d (ignored_was plan z e.msg r q x.answers f d l) in
            let same : b.server ≡ s = same_there w.servers n b.server s b.there x.there in
            record { submitted = b.submitted; server = b.server; there = now ∙ ap Some (marks.ignored f ∙ sym same); held = b.held }

    pub served_calm : AreCalm plan (at_server (mark_delivered w k) n x.step x.reads)
    served_calm =
        record {
          shards = λ i y there. elim (get-set_cases w.servers n i s r.state y x.there there) [
            | inl f ↦ ap (λ (y : ServerState). y.shard.0) f.1 ∙ (ap (λ (s : Shard). s.0) marks.shard ∙ (a.shards n s x.there ∙ f.0))
            | inr f ↦ a.shards i y f.1
          ];
          coords = a.coords;
          views = λ m c at v h. served_view m c at v h;
          messages = λ d j. elim (has_append d w.sent new j) [
            | inl old ↦ a.messages d old
            | inr now ↦ new_messages (λ d. IsOfSubmitted w.history d.msg) (λ out i. transactions_submitted w.history out.msg (ours out i)) with_submitted d now
          ];
          kept = kept_held;
          told = λ d j t above. elim (has_append d w.sent new j) [
            | inl old ↦ a.told d old t above
            | inr now ↦ new_messages (λ d. IsAbove d.msg t → IsPassed w.coords t) (λ out i k. a.heard n s x.there t (marks.told out i t k)) (λ y i k. absurd k) d now above
          ];
          heard = λ i y there t h. elim (get-set_cases w.servers n i s r.state y x.there there) [
            | inl f ↦ elim (marks.ended t (subst (λ (y : ServerState). is_ended y.below t ≡ true) f.1 h)) [ inl old ↦ a.heard n s x.there t old | inr above ↦ a.told e has t above ]
            | inr f ↦ a.heard i y f.1 t h
          ];
          asked = a.asked;
        }

  -- ---- time passes for a server

  module _ (n : ℕ) (s : ServerState) (z : Viewing) (there : slice_get w.servers n ≡ Some s) (keeps : slice_get w.viewing n ≡ Some z) where
    abbrev ticked : World
    ticked = at_server w n (answered s (server.tick_sends s)) (record { viewing = z; sends = [] })

    abbrev fetches : List Envelope
    fetches = map (sent_by (Server (record { 0 = n }))) ((answered s (server.tick_sends s)).sends ++ [])

    each : (P : Envelope → Type 0) → ((out : Outgoing) → Has out (server.tick_sends s) → P (sent_by (Server (record { 0 = n })) out)) → (m : Envelope)
        → Has m (map (sent_by (Server (record { 0 = n }))) ((answered s (server.tick_sends s)).sends ++ [])) → P m
    each P all m h =
        let p = from_has_map (sent_by (Server (record { 0 = n }))) m (server.tick_sends s ++ []) h in
        subst P (sym p.2) (all p.0 (subst (λ l. Has p.0 l) (append-nil (server.tick_sends s)) p.1))

    same_viewing : slice_set w.viewing n z ≡ w.viewing
    same_viewing = set_there w.viewing n z keeps

    same_servers : slice_set w.servers n s ≡ w.servers
    same_servers = set_there w.servers n s there

    pub ticked_calm : AreCalm plan (at_server w n (answered s (server.tick_sends s)) (record { viewing = z; sends = [] }))
    ticked_calm =
        record {
          shards = λ i y at. a.shards i y (subst (λ l. slice_get l i ≡ Some y) same_servers at);
          coords = a.coords;
          views = λ m c at v h.
              calm_on plan w ticked v (λ d j. has_left d w.sent fetches j)
              (λ g l. inl (l.0, subst (λ zs. slice_get zs (read_shard plan v g).0 ≡ Some l.0) (sym same_viewing) l.1, l.2))
              (λ d j. elim (has_append d w.sent fetches j) [
                | inl old ↦ inl old
                | inr now ↦ inr
                    (each (λ d. Fits plan v d.msg d.to) (λ out i. transactions_fit plan v out.msg out.to (ours out i)) d now)
              ])
              (λ i y found d j same. (a.views m c at v h).kept i y (subst (λ l. slice_get l i ≡ Some y) same_viewing found) d j same)
              (λ d j. inl (came_sends w (Server (record { 0 = n })) (server.tick_sends s ++ []) d j)) (λ j. j) (a.views m c at v h);
          messages = λ d j. elim (has_append d w.sent fetches j)
              [ inl old ↦ a.messages d old | inr now ↦ each (λ d. IsOfSubmitted w.history d.msg) (λ out i. transactions_submitted w.history out.msg (ours out i)) d now ];
          kept = λ i y at d j.
              (let b = a.kept i y (subst (λ l. slice_get l i ≡ Some y) same_viewing at) d j in
              record { submitted = b.submitted; server = b.server; there = subst (λ l. slice_get l i ≡ Some b.server) (sym same_servers) b.there; held = b.held });
          told = λ d j t above. elim (has_append d w.sent fetches j)
              [ inl old ↦ a.told d old t above | inr now ↦ absurd (each (λ d. ¬ IsAbove d.msg t) (λ out i. tick_marks plan s out i t) d now above) ];
          heard = λ i y at t h. a.heard i y (subst (λ l. slice_get l i ≡ Some y) same_servers at) t h;
          asked = a.asked;
        }
      where
        ours : AreOfTransactions (server.tick_sends s)
        ours = server_sends.tick_of_transactions plan s
