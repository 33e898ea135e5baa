-- A transaction or a view is submitted, or time passes for a coordinator: open views stay as they have to be
use Rattle.std.proofs.Common.{◌≡◌, ◌≢◌, ◌∙◌, ◌⊎◌, inl, inr, ℕ, ℤ, zero, suc, ◌<◌, true, false, List, [], ◌∷◌, ◌++◌, Some, is_some, map, length, refl, sym, ap, subst, arith, append-nil}
use Rattle.std.proofs.lemmas.Bool.{false≢true}
use Rattle.std.specs.Prelude.{slice_get}
use Rattle.std.specs.List.{list_all, range_with_len}
use Rattle.roc_sequence.specs.Lists.{Has}
use Rattle.roc_sequence.proofs.Members.{has_append, has_left, has_right, has_one, has_more, has_map}
use Rattle.roc_base.specs.declared.id.TxnId.{TxnId}
use Rattle.roc_base.specs.declared.node.Node.{Node}
use Rattle.roc_base.specs.declared.node.Node.TheVariants.{Coord}
use Rattle.roc_msg.specs.declared.msg.Msg.{Msg}
use Rattle.roc_msg.specs.declared.msg.Msg.TheVariants.{Read, ReadOk}
use Rattle.roc_msg.specs.declared.msg.Envelope.{Envelope}
use Rattle.roc_msg.specs.declared.outbox.Outgoing.{Outgoing}
use Rattle.roc_merge_groups.proofs.Elements.{has_range}
use Rattle.roc_plan.specs.Groups.{Plan, procedure_of, groups_of, is_view_of}
use Rattle.roc_readonly.specs.declared.view.View.{View}
use Rattle.roc_readonly.specs.Round.{view_groups, find_read, read_shard, read_for, reads_of, first_round, is_full}
use Rattle.roc_coord.specs.State.{CoordState}
use Rattle.roc_coord.specs.Submit.{next_id, new_transaction, accepted, accepted_view}
use Rattle.roc_coord.specs.Tick.{tick_sends}
use Rattle.roc_audit.specs.declared.entry.Entry.{Entry}
use Rattle.roc_audit.specs.declared.entry.Entry.TheVariants.{Submitted}
use Rattle.roc_audit.specs.History.{WasSubmitted}
use Rattle.roc_law_protocol.specs.World.{sent_by}
use Rattle.roc_law_world.specs.World.{World, at_coord, at_coord_tick}
use Rattle.roc_law_world.specs.Beside.{is_of_view}
use Rattle.roc_law_world.proofs.Sent.{AreOfTransactions}
use Rattle.roc_law_world.proofs.AsideSteps.{starts_kept}
use Rattle.roc_law_world.proofs.RoundReads.{IsReadOf, reads_are, group_there, again_are}
use Rattle.roc_law_world.proofs.CoordMarks.{least_more, new_starts_none, reads_none, tick_tells}
use Rattle.roc_law_world.proofs.Comings.{came_sent, came_sends}
use Rattle.roc_law_world.proofs.Calm.{IsOfSubmitted, transactions_submitted, Fits, transactions_fit, Done, IsCalm, KeepsViews, AreCalm}
use Rattle.roc_law_world.proofs.CalmCoords.{IsApart, stepped_calm}
use Rattle.roc_law_protocol.proofs.Stops.{set_there}

the_submission : (a b : TxnId) (p q : ℕ) (x y : List ℤ) → Submitted a p x ≡ Submitted b q y → (a ≡ b) × (p ≡ q)
the_submission a b p q x y e = (cc, cc)

module _ (plan : Plan) where
  -- ---- reads of a view

  -- a read of the view is as the plan says
  pub read_fits : (v : View) (e : Envelope) → IsReadOf plan v e → Fits plan v e.msg e.to
  read_fits v e r =
      subst (λ msg. Fits plan v msg e.to) (sym r.message) (λ same. (
        (read_shard plan v r.group).0,
        r.to,
        record { until = omega arith; procedure = refl; there = r.there; arguments = refl; here = refl },
      ))

  -- and of another view
  pub read_fits_other : (x v : View) (e : Envelope) → IsReadOf plan v e → v.id ≢ x.id → Fits plan x e.msg e.to
  read_fits_other x v e r other = subst (λ msg. Fits plan x msg e.to) (sym r.message) (λ same. absurd (other same))

  pub read_submitted : (history : List Entry) (v : View) (e : Envelope) → IsReadOf plan v e → WasSubmitted history v.id → IsOfSubmitted history e.msg
  read_submitted history v e r was = subst (IsOfSubmitted history) (sym r.message) was

  -- what a round sends
  pub round_reads : (v : View) (n : ℕ) (out : Outgoing) → Has out (reads_of plan v) → IsReadOf plan v (sent_by (Coord n) out)
  round_reads v n out h = reads_are plan v (Coord n) (view_groups plan v) (group_there plan v) (sent_by (Coord n) out) (has_map (sent_by (Coord n)) out (reads_of plan v) h)

  -- and a round for each group
  pub round_sends : (v : View) (n : ℕ) (sent : List Envelope) (g : ℕ) → g < length (groups_of plan v.proc)
      → (m : Envelope) × Has m (sent ++ map (sent_by (Coord n)) (reads_of plan v)) × (m.msg ≡ Read v.id v.round v.proc g v.args)
  round_sends v n sent g l = (
    sent_by (Coord n) (read_for plan v g),
    has_right _ sent (map (sent_by (Coord n)) (reads_of plan v))
        (has_map (sent_by (Coord n)) (read_for plan v g) (reads_of plan v)
        (has_map (read_for plan v) g (view_groups plan v) (has_range 0 (length (groups_of plan v.proc)) g (omega arith) (omega arith)))),
    refl,
  )

  -- a round of which nothing was taken is not full
  pub begun_open : (v : View) → 0 < length (groups_of plan v.proc) → v.got ≡ [] → ¬ (is_full plan v ≡ true)
  begun_open v some none full = go (length (groups_of plan v.proc)) some (subst (λ got. list_all (λ g. is_some (find_read g got)) (view_groups plan v) ≡ true) none full)
    where
      go : (n : ℕ) → 0 < n → ¬ (list_all (λ g. is_some (find_read g [])) (range_with_len 0 n) ≡ true)
      go zero l e = absurd (omega arith)
      go (suc n) l e = false≢true e

  module _ (w : World) (a : AreCalm plan w) (n : ℕ) (s : CoordState) (there : slice_get w.coords n ≡ Some s) (number : s.number ≡ n) where
    -- ---- a transaction

    module _ (proc : ℕ) (args : List ℤ) (plain : is_view_of plan proc ≡ false) where
      abbrev after : CoordState
      after = (accepted plan s (new_transaction s proc args)).state

      abbrev outs : List Outgoing
      outs = (accepted plan s (new_transaction s proc args)).sends

      abbrev told : List Entry
      told = Submitted (next_id s) proc args ∷ []

      ours : AreOfTransactions outs
      ours = starts_kept plan (new_transaction s proc args)

      pub transaction_calm : AreCalm plan (at_coord w n (accepted plan s (new_transaction s proc args)).state (accepted plan s (new_transaction s proc args)).sends
          (Submitted (next_id s) proc args ∷ []))
      transaction_calm =
          stepped_calm plan w n s after outs told (at_coord w n after outs told) (λ m. ⊥) (λ x. Unit {0}) a
          (record { there = there; servers = refl; viewing = refl; coords = refl; sent = refl; history = refl; number = number })
          (record {
            came = λ m h. inl (came_sends w (Coord n) outs m h);
            rises = least_more s.unanswered (next_id s) s.next refl;
            above = λ out h t k. absurd (new_starts_none plan (new_transaction s proc args) out h t k);
            of = λ out h. transactions_submitted (w.history ++ told) out.msg (ours out h);
            keeps = record {
              own = (a.coords n s there).own;
              one = (a.coords n s there).one;
              listed = λ v h. has_left v.id s.unanswered (next_id s ∷ []) ((a.coords n s there).listed v h);
            };
            views = λ x h. inl (h, tt);
            fits = λ x c apart out h. transactions_fit plan x out.msg out.to (ours out h);
            done = λ x c apart m h. absurd h;
            goes_on = λ x h. inl (x, h, refl);
            begins = λ t p l h view. absurd (false≢true (sym plain
                ∙ (ap (is_view_of plan) (sym (the_submission t (next_id s) p proc l args (has_one (Submitted t p l) (Submitted (next_id s) proc args) h)).1) ∙ view)));
          })

    -- ---- a view

    module _ (fresh : ¬ WasSubmitted w.history (next_id s)) (proc : ℕ) (args : List ℤ) (viewed : is_view_of plan proc ≡ true) (counted : length args ≡ (procedure_of plan proc).arguments)
        (some : 0 < length (groups_of plan proc)) where
      abbrev v : View
      v = first_round (next_id s) proc args

      abbrev begun : World
      begun = at_coord w n (accepted_view plan s (first_round (next_id s) proc args)).state (reads_of plan (first_round (next_id s) proc args)) (Submitted (next_id s) proc args ∷ [])

      abbrev new_told : List Entry
      new_told = Submitted (next_id s) proc args ∷ []

      abbrev reads : List Outgoing
      reads = reads_of plan (first_round (next_id s) proc args)

      new_submitted : WasSubmitted (w.history ++ Submitted (next_id s) proc args ∷ []) (next_id s)
      new_submitted = (proc, args, has_right (Submitted (next_id s) proc args) w.history new_told (inl refl))

      -- what was sent before is of others
      old_fits : (msg : Msg) (to : Node) → IsOfSubmitted w.history msg → Fits plan (first_round (next_id s) proc args) msg to
      old_fits (Read id round p g l) to was = λ same. absurd (fresh (subst (WasSubmitted w.history) same was))
      old_fits (ReadOk id round g shard vs gave) to was = λ same. absurd (fresh (subst (WasSubmitted w.history) same was))
      old_fits msg to was = tt

      old_done : (msg : Msg) → IsOfSubmitted w.history msg → Done plan begun (first_round (next_id s) proc args) msg
      old_done (Read id round p g l) was = λ same. absurd (fresh (subst (WasSubmitted w.history) same was))
      old_done (ReadOk id round g shard vs gave) was = λ same. absurd (fresh (subst (WasSubmitted w.history) same was))
      old_done msg was = tt

      new_calm : IsCalm plan begun (first_round (next_id s) proc args)
      new_calm =
          record {
            view = viewed;
            counted = counted;
            submitted = has_right (Submitted (next_id s) proc args) w.history new_told (inl refl);
            sent = round_sends v n w.sent;
            messages = λ m h. elim (has_append m w.sent (map (sent_by (Coord n)) reads) h) [
              | inl old ↦ old_fits m.msg m.to (a.messages m old)
              | inr now ↦ read_fits v m (reads_are plan v (Coord n) (view_groups plan v) (group_there plan v) m now)
            ];
            kept = λ i z at x h same. absurd (fresh (subst (WasSubmitted w.history) same (a.kept i z at x h).submitted));
            came = λ m h. old_done m.msg (a.messages m (came_sent w m (came_sends w (Coord n) reads m h)));
            lacks = λ full. absurd (begun_open v some refl full);
          }

      -- another one than the new one
      old_id : (x : View) → Has x s.views → x.id ≢ next_id s
      old_id x h e = fresh (subst (WasSubmitted w.history) e (x.proc, x.args, (a.views n s there x h).submitted))

      new_keeps : KeepsViews plan n (accepted_view plan s (first_round (next_id s) proc args)).state
      new_keeps =
          record {
            own = λ x h. elim (has_more x v s.views h) [ inl old ↦ (a.coords n s there).own x old | inr now ↦ ap (λ (x : View). x.id.coord) now ∙ number ];
            one = λ x y h k same. elim (has_more x v s.views h) [
              | inl old ↦ elim (has_more y v s.views k) [
                | inl old_too ↦ (a.coords n s there).one x y old old_too same
                | inr now ↦ absurd (old_id x old (same ∙ ap (λ (y : View). y.id) now))
              ]
              | inr now ↦ elim (has_more y v s.views k) [
                | inl old ↦ absurd (old_id y old (sym same ∙ ap (λ (x : View). x.id) now))
                | inr now_too ↦ now ∙ sym now_too
              ]
            ];
            listed = λ x h. elim (has_more x v s.views h) [
              | inl old ↦ has_left x.id s.unanswered (next_id s ∷ []) ((a.coords n s there).listed x old)
              | inr now ↦ has_right x.id s.unanswered (next_id s ∷ []) (inl (ap (λ (x : View). x.id) now))
            ];
          }

      other_view : (x : View)
          → IsApart plan w n s (accepted_view plan s (first_round (next_id s) proc args)).state (reads_of plan (first_round (next_id s) proc args))
          (Submitted (next_id s) proc args ∷ []) begun (λ x. x.id ≢ next_id s) x → next_id s ≢ x.id
      other_view x (inl apart) e = apart (ap (λ (t : TxnId). t.coord) (sym e) ∙ number)
      other_view x (inr p) e = p.1 (sym e)

      pub view_calm : AreCalm plan (at_coord w n (accepted_view plan s (first_round (next_id s) proc args)).state (reads_of plan (first_round (next_id s) proc args))
          (Submitted (next_id s) proc args ∷ []))
      view_calm =
          stepped_calm plan w n s (accepted_view plan s v).state reads new_told begun (λ m. ⊥) (λ x. x.id ≢ next_id s) a
          (record { there = there; servers = refl; viewing = refl; coords = refl; sent = refl; history = refl; number = number })
          (record {
            came = λ m h. inl (came_sends w (Coord n) reads m h);
            rises = least_more s.unanswered (next_id s) s.next refl;
            above = λ out h t k. absurd (reads_none plan v out h t k);
            of = λ out h. read_submitted (w.history ++ new_told) v (sent_by (Coord n) out) (round_reads v n out h) new_submitted;
            keeps = new_keeps;
            views = λ x h. elim (has_more x v s.views h) [ inl old ↦ inl (old, old_id x old) | inr now ↦ inr (subst (IsCalm plan begun) (sym now) new_calm) ];
            fits = λ x c apart out h. read_fits_other x v (sent_by (Coord n) out) (round_reads v n out h) (other_view x apart);
            done = λ x c apart m h. absurd h;
            goes_on = λ x h. inl (x, has_left x s.views (v ∷ []) h, refl);
            begins = λ t p l h view.
                (let same = (the_submission t (next_id s) p proc l args (has_one (Submitted t p l) (Submitted (next_id s) proc args) h)).0 in
                (ap (λ (t : TxnId). t.coord) same ∙ number, v, has_right v s.views (v ∷ []) (inl refl), sym same));
          })

    -- ---- time passes

    abbrev tick_outs : List Outgoing
    tick_outs = tick_sends plan s

    tick_reads : (out : Outgoing) → Has out (tick_sends plan s) → (is_of_view out.msg ≡ false) ⊎ ((y : View) × Has y s.views × IsReadOf plan y (sent_by (Coord n) out))
    tick_reads out h = again_are plan n s (sent_by (Coord n) out) (has_map (sent_by (Coord n)) out (tick_sends plan s) h)

    pub tick_calm : AreCalm plan (at_coord_tick w n (tick_sends plan s))
    tick_calm =
        stepped_calm plan w n s s tick_outs [] (at_coord_tick w n tick_outs) (λ m. ⊥) (λ x. Unit {0}) a
        (record { there = there; servers = refl; viewing = refl; coords = sym (set_there w.coords n s there); sent = refl; history = sym (append-nil w.history); number = number })
        (record {
          came = λ m h. inl (came_sends w (Coord n) tick_outs m h);
          rises = omega arith;
          above = tick_tells plan s;
          of = λ out h. elim (tick_reads out h) [
            | inl plain ↦ transactions_submitted (w.history ++ []) out.msg plain
            | inr r ↦ read_submitted (w.history ++ []) r.0 (sent_by (Coord n) out) r.2 (r.0.proc, r.0.args, has_left _ w.history [] (a.views n s there r.0 r.1).submitted)
          ];
          keeps = a.coords n s there;
          views = λ x h. inl (h, tt);
          fits = λ x c apart out h. elim (tick_reads out h) [
            | inl plain ↦ transactions_fit plan x out.msg out.to plain
            | inr r ↦ elim apart [
              | inl other ↦ read_fits_other x r.0 (sent_by (Coord n) out) r.2 (λ e. other (ap (λ (t : TxnId). t.coord) (sym e) ∙ (a.coords n s there).own r.0 r.1))
              | inr p ↦ own_read x p.0 out r.0 r.1 r.2
            ]
          ];
          done = λ x c apart m h. absurd h;
          goes_on = λ x h. inl (x, h, refl);
          begins = λ t p l h view. absurd h;
        })
      where
        -- a read of a view here, which this one is or not
        own_read : (x : View) → Has x s.views → (out : Outgoing) → (y : View) → Has y s.views → IsReadOf plan y (sent_by (Coord n) out) → Fits plan x out.msg out.to
        own_read x h out y k r =
            subst (λ msg. Fits plan x msg out.to) (sym r.message)
            (λ same. subst (λ msg. Fits plan x msg out.to) r.message (subst (λ z. Fits plan z out.msg out.to) ((a.coords n s there).one y x k h same) (read_fits y (sent_by (Coord n) out) r)) same)
