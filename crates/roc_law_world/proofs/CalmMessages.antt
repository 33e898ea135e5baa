-- A message comes to a coordinator: open views stay as they have to be
use Rattle.std.proofs.Common.{◌≡◌, ◌≢◌, ◌∙◌, ◌⊎◌, inl, inr, ℕ, ℤ, ◌+◌, ◌-◌, ◌<◌, ◌==◌, Bool, true, false, not}
use Rattle.std.proofs.Common.{List, [], ◌∷◌, ◌++◌, Option, Some, None, is_some, map, length, refl, sym, ap, subst, arith, append-nil}
use Rattle.std.proofs.lemmas.Bool.{false≢true, eq-eqb, eqb-true, not_from_false, false_from_ne_true}
use Rattle.std.specs.Prelude.{slice_get, if◌then◌else◌}
use Rattle.roc_sequence.specs.Lists.{Has}
use Rattle.roc_sequence.proofs.Members.{has_append, has_left, has_at, has_filter, from_has_filter}
use Rattle.roc_sequence.proofs.Found.{found_has, none_found}
use Rattle.roc_base.specs.declared.id.TxnId.{TxnId}
use Rattle.roc_base.specs.declared.node.Node.{Node}
use Rattle.roc_base.specs.declared.node.Node.TheVariants.{Server, Coord}
use Rattle.roc_base.specs.declared.node.Shard.{Shard}
use Rattle.roc_base.specs.TxnId.{is_txn}
use Rattle.roc_base.specs.Equalities.{is_txn-true}
use Rattle.roc_base.proofs.Ids.{is_txn-eq}
use Rattle.roc_msg.specs.declared.msg.Msg.{Msg}
use Rattle.roc_msg.specs.declared.msg.Msg.TheVariants.{StartOk, CommitOk, Read, ReadOk}
use Rattle.roc_msg.specs.declared.msg.Envelope.{Envelope}
use Rattle.roc_msg.specs.declared.outbox.Outgoing.{Outgoing}
use Rattle.roc_msg.specs.declared.reason.Reason.{Reason}
use Rattle.roc_msg.specs.declared.reason.Reason.TheVariants.{Foreign, Stale, Unfit}
use Rattle.roc_plan.specs.Groups.{Plan, groups_of, is_view_of}
use Rattle.roc_readonly.specs.declared.view.Round.{Round}
use Rattle.roc_readonly.specs.declared.view.Round.TheVariants.{Waits, Ends, GoesOn}
use Rattle.roc_readonly.specs.declared.view.TakenRead.{TakenRead}
use Rattle.roc_readonly.specs.declared.view.View.{View}
use Rattle.roc_readonly.specs.Round.{view_groups, find_read, reads_of, next_round, with_readok, round_of, readok_refusal, is_fit_readok}
use Rattle.roc_coord.specs.declared.handled.Handled.{Handled}
use Rattle.roc_coord.specs.declared.handled.Handled.TheVariants as coord_answer
use Rattle.roc_coord.specs.State.{ignored, find_transaction, find_view, with_view, CoordState}
use Rattle.roc_coord.specs.Step.{unless_refused, answered_sends, without_view, readok_taken, unread, after_readok, after_message}
use Rattle.roc_audit.specs.declared.entry.Entry.{Entry}
use Rattle.roc_audit.specs.declared.entry.Entry.TheVariants.{Submitted, Answered}
use Rattle.roc_law_protocol.specs.Happens.{answer_entries}
use Rattle.roc_law_protocol.specs.World.{sent_by}
use Rattle.roc_law_protocol.proofs.Submissions.{no_submission}
use Rattle.roc_law_world.specs.World.{World, mark_delivered, at_coord}
use Rattle.roc_law_world.specs.Happens.{coordinated}
use Rattle.roc_law_world.specs.Beside.{is_of_view}
use Rattle.roc_law_world.proofs.Coordinators.{IsCoordSound}
use Rattle.roc_law_world.proofs.CoordSteps.{for_transactions, are_marks}
use Rattle.roc_law_world.proofs.RoundReads.{reads_are, group_there}
use Rattle.roc_law_world.proofs.CoordMarks.{TellsMarks, reads_none, ended_tells, tells_marks, view_stays}
use Rattle.roc_law_world.proofs.Comings.{Came, came_sent, came_sends, came_or_comes}
use Rattle.roc_law_world.proofs.Calm.{transactions_submitted, IsOkOf, Fits, transactions_fit, Done, transactions_done, IsCalm, AreCalm}
use Rattle.roc_law_world.proofs.CalmCoords.{IsApart, stepped_calm}
use Rattle.roc_law_world.proofs.CalmRounds.{for_later, fits_later, found_more, found_last, waits_last, with_cases, with_has, with_keeps}
use Rattle.roc_law_world.proofs.CalmSubmissions.{read_fits, read_fits_other, read_submitted, round_reads, round_sends, begun_open}

module _ (plan : Plan) (some_group : (proc : ℕ) → is_view_of plan proc ≡ true → 0 < length (groups_of plan proc)) (is_view : TxnId → Bool) (w : World) (a : AreCalm plan w) (k : ℕ)
    (some : 0 < k) (e : Envelope) (stands : slice_get w.sent (k - 1) ≡ Some e)
    (n : ℕ) (to : e.to ≡ Coord n) (s : CoordState) (there : slice_get w.coords n ≡ Some s) (number : s.number ≡ n) (sound : IsCoordSound is_view s) where
  abbrev come : World
  come = mark_delivered w k

  has : Has e w.sent
  has = has_at w.sent (k - 1) e stands

  came_here : (outs : List Outgoing) (after : CoordState) (told : List Entry) (m : Envelope) → Came (at_coord (mark_delivered w k) n after outs told) m → Came w m ⊎ (m ≡ e)
  came_here outs after told m h = came_or_comes w k some e stands m (came_sends come (Coord n) outs m h)

  none_begins : (answer : Handled) (P : TxnId → Type 0) → (t : TxnId) (proc : ℕ) (args : List ℤ) → Has (Submitted t proc args) (answer_entries answer) → is_view_of plan proc ≡ true → P t
  none_begins answer P t proc args h view = absurd (no_submission answer t proc args h)

  -- ---- nothing comes of it

  nothing_comes : (reason : Reason) → ((x : View) → IsCalm plan w x → (x.id.coord ≢ n) ⊎ Has x s.views → Done plan (coordinated (mark_delivered w k) n (ignored s reason)).world x e.msg)
      → AreCalm plan (coordinated (mark_delivered w k) n (ignored s reason)).world
  nothing_comes reason old =
      stepped_calm plan w n s s [] [] u (λ m. m ≡ e) (λ x. Unit {0}) a
      (record { there = there; servers = refl; viewing = refl; coords = refl; sent = refl; history = refl; number = number })
      (record {
        came = came_here [] s [];
        rises = omega arith;
        above = λ out h. absurd h;
        of = λ out h. absurd h;
        keeps = a.coords n s there;
        views = λ x h. inl (h, tt);
        fits = λ x c apart out h. absurd h;
        done = λ x c apart m same. subst (λ (m : Envelope). Done plan u x m.msg) (sym same) (old x c (elim apart [ inl other ↦ inl other | inr p ↦ inr p.0 ]));
        goes_on = λ x h. inl (x, h, refl);
        begins = λ t proc args h view. absurd h;
      })
    where
      u : World
      u = (coordinated (mark_delivered w k) n (ignored s reason)).world

  -- ---- it is of transactions

  transaction_taken : is_of_view e.msg ≡ false → AreCalm plan (coordinated (mark_delivered w k) n (after_message plan s e.msg)).world
  transaction_taken plain =
      let r = after_message plan s e.msg in
      let f = for_transactions plan is_view s sound e.msg plain in
      let marks = tells_marks plan s e.msg in
      let own = a.coords n s there in
      stepped_calm plan w n s r.state r.sends (answer_entries r.answer) (coordinated (mark_delivered w k) n r).world (λ m. m ≡ e) (λ x. Unit {0}) a
      (record { there = there; servers = refl; viewing = refl; coords = refl; sent = refl; history = refl; number = f.number ∙ number })
      (record {
        came = came_here r.sends r.state (answer_entries r.answer);
        rises = marks.rises;
        above = marks.told;
        of = λ out h. transactions_submitted (w.history ++ answer_entries r.answer) out.msg (f.sends out h);
        keeps = record {
          own = λ v h. own.own v (subst (λ l. Has v l) f.views h);
          one = λ v x h i same. own.one v x (subst (λ l. Has v l) f.views h) (subst (λ l. Has x l) f.views i) same;
          listed = λ v h. let j = subst (λ l. Has v l) f.views h in view_stays plan is_view s sound v.id (sound.views v j) (own.listed v j) e.msg plain;
        };
        views = λ x h. inl (subst (λ l. Has x l) f.views h, tt);
        fits = λ x c apart out h. transactions_fit plan x out.msg out.to (f.sends out h);
        done = λ x c apart m same. transactions_done plan (coordinated (mark_delivered w k) n r).world x m.msg (ap (λ (m : Envelope). is_of_view m.msg) same ∙ plain);
        goes_on = λ x h. inl (x, subst (λ l. Has x l) (sym f.views) h, refl);
        begins = none_begins r.answer _;
      })

  -- ---- it answers a read

  module _ (id : TxnId) (round group : ℕ) (shard : Shard) (vs : List ℕ) (outs : List ℤ) (is : e.msg ≡ ReadOk id round group shard vs outs) where
    abbrev ok : TakenRead
    ok = record { group = group; versions = vs; outs = outs }

    -- to the coordinator of its view
    to_own : (x : View) → IsCalm plan w x → id ≡ x.id → (x.id.coord ≡ n) × IsOkOf plan x round (record { group = group; versions = vs; outs = outs }) shard
    to_own x c same =
        let f = subst (λ msg. Fits plan x msg e.to) is (c.messages e has) same in
        (the_number x.id.coord n (sym f.0 ∙ to), f.1)
      where
        the_number : (a b : ℕ) → Coord a ≡ Coord b → a ≡ b
        the_number a b e = cc

    -- what it says of a view, where it is of that
    arrived : (u : World) (x : View) (m : Envelope) → m ≡ e → (id ≡ x.id → round ≡ x.round → is_some (find_read group x.got) ≡ true) → Done plan u x m.msg
    arrived u x m same f = subst (λ msg. Done plan u x msg) (sym (ap (λ (m : Envelope). m.msg) same ∙ is)) f

    -- nothing comes of it: what it tells was taken
    ignored_calm : (reason : Reason) → ((x : View) → Has x s.views → id ≡ x.id → round ≡ x.round → is_some (find_read group x.got) ≡ true)
        → AreCalm plan (coordinated (mark_delivered w k) n (ignored s reason)).world
    ignored_calm reason old = nothing_comes reason (λ x c apart. arrived (coordinated (mark_delivered w k) n (ignored s reason)).world x e refl (λ own now. elim apart [
      | inl other ↦ absurd (other (to_own x c own).0)
      | inr h ↦ old x h own now
    ]))

    -- ---- it is taken

    module _ (v : View) (kept : Has v s.views) (same_id : v.id ≡ id) (now : round ≡ v.round) where
      abbrev taken : View
      taken = with_readok v (record { group = group; versions = vs; outs = outs })

      abbrev calm : IsCalm plan w v
      calm = a.views n s there v kept

      -- of no other view is it
      not_of : (after : CoordState) (sends : List Outgoing) (told : List Entry) (u : World) (x : View) → IsApart plan w n s after sends told u (λ x. x.id ≢ v.id) x → v.id ≢ x.id
      not_of after sends told u x (inl other) f = other (ap (λ (t : TxnId). t.coord) (sym f) ∙ (a.coords n s there).own v kept)
      not_of after sends told u x (inr p) f = p.1 (sym f)

      arrives_elsewhere : (u : World) (x : View) → v.id ≢ x.id → (m : Envelope) → m ≡ e → Done plan u x m.msg
      arrives_elsewhere u x other m same = arrived u x m same (λ own round. absurd (other (same_id ∙ own)))

      message_was : (u : World) (m : Envelope) → Came w m ⊎ (m ≡ e) → Has m w.sent
      message_was u m (inl c) = came_sent w m c
      message_was u m (inr f) = subst (λ m. Has m w.sent) (sym f) has

      -- the round waits for others

      module _ (waits : round_of plan (with_readok v (record { group = group; versions = vs; outs = outs })) ≡ Waits) where
        abbrev waiting : World
        waiting = at_coord (mark_delivered w k) n (with_view s (with_readok v (record { group = group; versions = vs; outs = outs }))) [] []

        old_done : (msg : Msg) → Done plan w v msg → Done plan waiting (with_readok v (record { group = group; versions = vs; outs = outs })) msg
        old_done (Read id round p g l) d = λ own now. elim (d own now) [
          | inl z ↦ inl z
          | inr t ↦ inr (t.0, has_left t.0 w.sent [] t.1, t.2, t.3, t.4, t.5)
        ]
        old_done (ReadOk id round g shard vs outs) d = λ own now. found_more g v.got ok (d own now)
        old_done msg d = tt

        waits_calm : IsCalm plan waiting (with_readok v (record { group = group; versions = vs; outs = outs }))
        waits_calm =
            record {
              view = calm.view;
              counted = calm.counted;
              submitted = has_left _ w.history [] calm.submitted;
              sent = λ g l. let q = calm.sent g l in (q.0, has_left q.0 w.sent [] q.1, q.2);
              messages = λ m h. fits_later plan v v.round v.last (v.got ++ ok ∷ []) (omega arith) m.msg m.to (calm.messages m (subst (λ l. Has m l) (append-nil w.sent) h));
              kept = λ i z at x h same. for_later plan v v.round v.last (v.got ++ ok ∷ []) (omega arith) x.round x.proc x.group x.args i (calm.kept i z at x h same);
              came = λ m h. elim (came_here [] (with_view s taken) [] m h) [
                | inl c ↦ old_done m.msg (calm.came m c)
                | inr f ↦ subst (λ msg. Done plan waiting taken msg) (sym (ap (λ (m : Envelope). m.msg) f ∙ is)) (λ own now. found_last group v.got ok refl)
              ];
              lacks = λ full. waits_last plan taken waits full;
            }

        waits_taken : AreCalm plan (at_coord (mark_delivered w k) n (with_view s (with_readok v (record { group = group; versions = vs; outs = outs }))) [] [])
        waits_taken =
            stepped_calm plan w n s (with_view s taken) [] [] waiting (λ m. m ≡ e) (λ x. x.id ≢ v.id) a
            (record { there = there; servers = refl; viewing = refl; coords = refl; sent = refl; history = refl; number = number })
            (record {
              came = came_here [] (with_view s taken) [];
              rises = omega arith;
              above = λ out h. absurd h;
              of = λ out h. absurd h;
              keeps = with_keeps s taken plan n (a.coords n s there) v kept refl;
              views = λ x h. elim (with_cases s taken x h) [ inl f ↦ inr (subst (IsCalm plan waiting) (sym f) waits_calm) | inr f ↦ inl f ];
              fits = λ x c apart out h. absurd h;
              done = λ x c apart m same. arrives_elsewhere waiting x (not_of (with_view s taken) [] [] waiting x apart) m same;
              goes_on = λ x h. inl (with_has s taken x h);
              begins = λ t proc args h view. absurd h;
            })

      -- the next round begins

      abbrev next : View
      next = next_round (with_readok v (record { group = group; versions = vs; outs = outs }))

      abbrev going : World
      going = at_coord (mark_delivered w k) n (with_view s (next_round (with_readok v (record { group = group; versions = vs; outs = outs }))))
          (reads_of plan (next_round (with_readok v (record { group = group; versions = vs; outs = outs })))) []

      abbrev next_reads : List Outgoing
      next_reads = reads_of plan (next_round (with_readok v (record { group = group; versions = vs; outs = outs })))

      -- nothing of it came yet
      none_came : (msg : Msg) (to : Node) → Fits plan v msg to → Done plan going next msg
      none_came (Read id r p g l) to f = λ own now. absurd (let u = (f own).2.until in omega arith)
      none_came (ReadOk id r g shard vs outs) to f = λ own now. absurd (let u = (f own).1.until in omega arith)
      none_came msg to f = tt

      goes_calm : IsCalm plan going (next_round (with_readok v (record { group = group; versions = vs; outs = outs })))
      goes_calm =
          record {
            view = calm.view;
            counted = calm.counted;
            submitted = has_left _ w.history [] calm.submitted;
            sent = round_sends plan next n w.sent;
            messages = λ m h. elim (has_append m w.sent (map (sent_by (Coord n)) next_reads) h) [
              | inl old ↦ fits_later plan v (v.round + 1) (v.got ++ ok ∷ []) [] (omega arith) m.msg m.to (calm.messages m old)
              | inr new ↦ read_fits plan next m (reads_are plan next (Coord n) (view_groups plan next) (group_there plan next) m new)
            ];
            kept = λ i z at x h same. for_later plan v (v.round + 1) (v.got ++ ok ∷ []) [] (omega arith) x.round x.proc x.group x.args i (calm.kept i z at x h same);
            came = λ m h. none_came m.msg m.to (calm.messages m (message_was going m (came_here next_reads (with_view s next) [] m h)));
            lacks = λ full. absurd (begun_open plan next (some_group v.proc calm.view) refl full);
          }

      goes_taken : AreCalm plan (at_coord (mark_delivered w k) n (with_view s (next_round (with_readok v (record { group = group; versions = vs; outs = outs }))))
          (reads_of plan (next_round (with_readok v (record { group = group; versions = vs; outs = outs })))) [])
      goes_taken =
          stepped_calm plan w n s (with_view s next) next_reads [] going (λ m. m ≡ e) (λ x. x.id ≢ v.id) a
          (record { there = there; servers = refl; viewing = refl; coords = refl; sent = refl; history = refl; number = number })
          (record {
            came = came_here next_reads (with_view s next) [];
            rises = omega arith;
            above = λ out h t above. absurd (reads_none plan next out h t above);
            of = λ out h. read_submitted plan (w.history ++ []) next (sent_by (Coord n) out) (round_reads plan next n out h) (v.proc, v.args, has_left _ w.history [] calm.submitted);
            keeps = with_keeps s next plan n (a.coords n s there) v kept refl;
            views = λ x h. elim (with_cases s next x h) [ inl f ↦ inr (subst (IsCalm plan going) (sym f) goes_calm) | inr f ↦ inl f ];
            fits = λ x c apart out h. read_fits_other plan x next (sent_by (Coord n) out) (round_reads plan next n out h) (not_of (with_view s next) next_reads [] going x apart);
            done = λ x c apart m same. arrives_elsewhere going x (not_of (with_view s next) next_reads [] going x apart) m same;
            goes_on = λ x h. inl (with_has s next x h);
            begins = λ t proc args h view. absurd h;
          })

      -- the view is answered

      module _ (reply : List ℤ) where
        abbrev ended : CoordState
        ended = without_view s v.id

        abbrev ends : World
        ends = at_coord (mark_delivered w k) n (without_view s v.id) (answered_sends plan s (without_view s v.id)) (Answered v.id reply ∷ [])

        left : (x : View) → Has x (without_view s v.id).views → Has x s.views × (x.id ≢ v.id)
        left x h =
            let f = from_has_filter (λ (u : View). not (is_txn u.id v.id)) x s.views h in
            (f.0, λ d. false≢true (sym (ap not (is_txn-eq x.id v.id d)) ∙ f.1))

        marks : TellsMarks s (readok_taken plan s (with_readok v (record { group = group; versions = vs; outs = outs })) (Ends reply))
        marks = ended_tells plan s (with_readok v (record { group = group; versions = vs; outs = outs })) reply

        ends_taken : AreCalm plan (at_coord (mark_delivered w k) n (without_view s v.id) (answered_sends plan s (without_view s v.id)) (Answered v.id reply ∷ []))
        ends_taken =
            stepped_calm plan w n s ended (answered_sends plan s ended) (Answered v.id reply ∷ []) ends (λ m. m ≡ e) (λ x. x.id ≢ v.id) a
            (record { there = there; servers = refl; viewing = refl; coords = refl; sent = refl; history = refl; number = number })
            (record {
              came = came_here (answered_sends plan s ended) ended (Answered v.id reply ∷ []);
              rises = marks.rises;
              above = marks.told;
              of = λ out h. transactions_submitted (w.history ++ Answered v.id reply ∷ []) out.msg (are_marks plan s ended out h);
              keeps = record {
                own = λ x h. (a.coords n s there).own x (left x h).0;
                one = λ x y h i same. (a.coords n s there).one x y (left x h).0 (left y i).0 same;
                listed = λ x h. let f = left x h in has_filter (λ u. not (is_txn u v.id)) x.id s.unanswered ((a.coords n s there).listed x f.0)
                    (not_from_false (is_txn x.id v.id) (false_from_ne_true (is_txn x.id v.id) (λ e. f.1 (is_txn-true x.id v.id e))));
              };
              views = λ x h. inl (left x h);
              fits = λ x c apart out h. transactions_fit plan x out.msg out.to (are_marks plan s ended out h);
              done = λ x c apart m same. arrives_elsewhere ends x (not_of ended (answered_sends plan s ended) (Answered v.id reply ∷ []) ends x apart) m same;
              goes_on = λ x h. stays_or_ends x h (is_txn x.id v.id) refl;
              begins = none_begins (coord_answer.Answered v.id reply) _;
            })
          where
            stays_or_ends : (x : View) → Has x s.views → (b : Bool) → is_txn x.id v.id ≡ b
                → ((y : View) × Has y (without_view s v.id).views × (y.id ≡ x.id)) ⊎ ((gave : List ℤ) × Has (Answered x.id gave) (Answered v.id reply ∷ []))
            stays_or_ends x h true f = inr (reply, inl (ap (λ t. Answered t reply) (is_txn-true x.id v.id f)))
            stays_or_ends x h false f = inl (x, has_filter (λ (u : View). not (is_txn u.id v.id)) x s.views h (not_from_false (is_txn x.id v.id) f), refl)

    -- ---- whether it is taken

    module _ (v : View) (kept : Has v s.views) (same_id : v.id ≡ id) where
      by_round : round ≡ v.round → (b : Round) → round_of plan (with_readok v (record { group = group; versions = vs; outs = outs })) ≡ b
          → AreCalm plan (coordinated (mark_delivered w k) n (readok_taken plan s (with_readok v (record { group = group; versions = vs; outs = outs })) b)).world
      by_round now Waits f = waits_taken v kept same_id now f
      by_round now GoesOn f = goes_taken v kept same_id now
      by_round now (Ends reply) f = ends_taken v kept same_id now reply

      -- what is refused of this view's round was taken
      refused_was : (reason : Reason) → readok_refusal plan v round (record { group = group; versions = vs; outs = outs }) shard ≡ Some reason → (x : View) → Has x s.views → id ≡ x.id
          → round ≡ x.round → is_some (find_read group x.got) ≡ true
      refused_was reason f x h own now =
          let one : v ≡ x = (a.coords n s there).one v x kept h (same_id ∙ own) in
          subst (λ (v : View). is_some (find_read group v.got) ≡ true) one
          (rounds (round == v.round) (eq-eqb round v.round (now ∙ ap (λ (x : View). x.round) (sym one))) f)
        where
          fits : is_fit_readok plan v (record { group = group; versions = vs; outs = outs }) shard ≡ true
          fits = (to_own v (a.views n s there v kept) (sym same_id)).1.fits

          fit : (c : Bool) → c ≡ true → ¬ ((if not c then Some Unfit else None) ≡ Some reason)
          fit true e g = cc
          fit false e g = false≢true e

          taken : (c : Bool) → is_some (find_read group v.got) ≡ c
              → (if c then Some Stale else if not (is_fit_readok plan v (record { group = group; versions = vs; outs = outs }) shard) then Some Unfit else None) ≡ Some reason
              → is_some (find_read group v.got) ≡ true
          taken true e g = e
          taken false e g = absurd (fit (is_fit_readok plan v (record { group = group; versions = vs; outs = outs }) shard) fits g)

          rounds : (c : Bool) → c ≡ true
              → (if not c then Some Stale else if is_some (find_read group v.got) then Some Stale else if not
              (is_fit_readok plan v (record { group = group; versions = vs; outs = outs }) shard) then Some Unfit else None) ≡ Some reason
              → is_some (find_read group v.got) ≡ true
          rounds true e g = taken (is_some (find_read group v.got)) refl g
          rounds false e g = absurd (false≢true e)

      judged : (x : Option Reason) → readok_refusal plan v round (record { group = group; versions = vs; outs = outs }) shard ≡ x
          → AreCalm plan (coordinated (mark_delivered w k) n (unless_refused s x
          (readok_taken plan s (with_readok v (record { group = group; versions = vs; outs = outs }))
          (round_of plan (with_readok v (record { group = group; versions = vs; outs = outs })))))).world
      judged (Some reason) f = ignored_calm reason (refused_was reason f)
      judged None f = by_round (current (round == v.round) refl f) (round_of plan (with_readok v ok)) refl
        where
          current : (c : Bool) → (round == v.round) ≡ c → (if not c then Some Stale else if is_some (find_read group v.got) then Some Stale else if not
              (is_fit_readok plan v ok shard) then Some Unfit else None) ≡ None → round ≡ v.round
          current true h f = eqb-true round v.round h
          current false h f = absurd (cc)

    readok_comes : (x : Option View) → find_view id s.views ≡ x
        → AreCalm plan (coordinated (mark_delivered w k) n (after_readok plan s id x round (record { group = group; versions = vs; outs = outs }) shard)).world
    readok_comes None f =
        ignored_calm (unread (find_transaction id s.pending)) (λ x h own now. absurd (false≢true (sym (none_found (λ (v : View). is_txn v.id id) s.views f x h) ∙ is_txn-eq x.id id (sym own))))
    readok_comes (Some v) f =
        let q = found_has (λ (v : View). is_txn v.id id) s.views v f in
        judged v q.0 (is_txn-true v.id id q.1) (readok_refusal plan v round ok shard) refl

  -- ---- any message

  pub message_calm : AreCalm plan (coordinated (mark_delivered w k) n (after_message plan s e.msg)).world
  message_calm = go e.msg refl (is_of_view e.msg) refl
    where
      -- a read goes to a server
      no_read : (id : TxnId) (round proc group : ℕ) (args : List ℤ) → e.msg ≡ Read id round proc group args → (x : View) → IsCalm plan w x
          → Done plan (coordinated (mark_delivered w k) n (ignored s Foreign)).world x e.msg
      no_read id round proc group args is x c =
          subst (λ msg. Done plan (coordinated (mark_delivered w k) n (ignored s Foreign)).world x msg) (sym is)
          (λ own now. absurd (let f = subst (λ msg. Fits plan x msg e.to) is (c.messages e has) own in apart (record { 0 = f.0 }) n (sym f.1 ∙ to)))
        where
          apart : (a : Shard) (b : ℕ) → Server a ≢ Coord b
          apart a b e = cc

      go : (msg : Msg) → e.msg ≡ msg → (b : Bool) → is_of_view msg ≡ b → AreCalm plan (coordinated (mark_delivered w k) n (after_message plan s msg)).world
      go msg is false plain = subst (λ msg. AreCalm plan (coordinated (mark_delivered w k) n (after_message plan s msg)).world) is (transaction_taken (ap is_of_view is ∙ plain))
      go (ReadOk id round group shard vs outs) is true plain = readok_comes id round group shard vs outs is (find_view id s.views) refl
      go (Read id round proc group args) is true plain = nothing_comes Foreign (λ x c apart. no_read id round proc group args is x c)
      go (StartOk id group shard bound outs edges facts) is true plain = absurd (false≢true plain)
      go (CommitOk id shard outs) is true plain = absurd (false≢true plain)
      go msg is true plain = absurd (false≢true plain)
