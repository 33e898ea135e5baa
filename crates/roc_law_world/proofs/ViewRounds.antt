-- A coordinator begins a view, keeps another in its place, or ticks: what it keeps, sends and tells of views still says of the log what it has to
use Rattle.std.proofs.Common.{◌≡◌, ◌≢◌, ◌∙◌, ◌⊎◌, inl, inr, ℕ, ℤ, ◌<◌, Bool, true, false, List, [], ◌∷◌, ◌++◌, Some, map, length, refl, sym, ap, subst, arith, append-nil}
use Rattle.std.proofs.lemmas.Bool.{false≢true, cases_eq}
use Rattle.std.specs.Prelude.{slice_get, slice_set, if◌then◌else◌}
use Rattle.roc_sequence.specs.Lists.{Has}
use Rattle.roc_sequence.proofs.Members.{has_append, has_left, has_right, has_one, has_more, from_has_map}
use Rattle.roc_base.specs.declared.id.TxnId.{TxnId}
use Rattle.roc_base.specs.declared.node.Node.TheVariants.{Coord}
use Rattle.roc_base.specs.TxnId.{is_txn}
use Rattle.roc_base.specs.Equalities.{is_txn-same}
use Rattle.roc_msg.specs.declared.msg.Msg.{Msg}
use Rattle.roc_msg.specs.declared.msg.Envelope.{Envelope}
use Rattle.roc_msg.specs.declared.outbox.Outgoing.{Outgoing}
use Rattle.roc_rows.specs.Versions.{Counts}
use Rattle.roc_plan.specs.Groups.{Plan, groups_of, is_view_of}
use Rattle.roc_whole.specs.Serial as whole
use Rattle.roc_law_log.specs.Scheme.{Scheme}
use Rattle.roc_law_log.specs.Log.{Log}
use Rattle.roc_law_log.specs.Steps.{no_steps}
use Rattle.roc_law_log.specs.Invariants.{LogInvariants}
use Rattle.roc_readonly.specs.declared.view.View.{View}
use Rattle.roc_readonly.specs.Round.{view_groups, reads_of, first_round}
use Rattle.roc_coord.specs.State.{with_view, CoordState}
use Rattle.roc_coord.specs.Submit.{next_id, accepted_view}
use Rattle.roc_audit.specs.declared.entry.Entry.TheVariants.{Submitted, Answered}
use Rattle.roc_audit.specs.History.{WasSubmitted}
use Rattle.roc_audit.specs.Woven.{Look}
use Rattle.roc_law_protocol.specs.Beginnings as protocol
use Rattle.roc_law_protocol.specs.World.{sent_by}
use Rattle.roc_law_world.specs.World.{World, looks_in, at_coord, at_coord_tick}
use Rattle.roc_law_world.specs.Beside.{is_of_view}
use Rattle.roc_law_world.proofs.ViewMeans.{proc_of, args_of, is_view_id, MessageIsFor, IsViewKept, ViewsMean}
use Rattle.roc_law_world.proofs.ViewsStay.{kept_on, answered_on, rounds_on, for_on, of_transactions_for, no_read, no_ok}
use Rattle.roc_law_world.proofs.RoundReads.{one_look, IsReadOf, reads_are, group_there, read_is_for, read_id, read_no_ok}
use Rattle.roc_law_protocol.proofs.Changed.{get-set_here, get-set_other, get-set_cases}

module _ (plan : Plan) (calls : TxnId → whole.Call) (asked : TxnId → whole.Call) (S : Scheme) (start : protocol.Beginning) (before : ℕ → Counts) where
  abbrev Mean : World → Log → Type 0
  Mean w log = ViewsMean plan calls asked S start before w log

  abbrev Kept : World → Log → View → Type 0
  Kept w log v = IsViewKept plan calls asked S start before w log v

  module _ (w : World) (log : Log) (m : Mean w log) (order : w.order ≡ log.order) (inv : LogInvariants S start.store log) (n : ℕ) (s : CoordState) (there : slice_get w.coords n ≡ Some s) where
    pub found_one : (a b : CoordState) → Some a ≡ Some b → a ≡ b
    found_one a b e = cc

    pub number : s.number ≡ n
    number = m.numbers n s there

    -- the next id is new
    fresh : ¬ WasSubmitted w.history (next_id s)
    fresh h =
        let g = m.given (next_id s) h in
        let same : g.0 ≡ s = found_one g.0 s (sym (subst (λ k. slice_get w.coords k ≡ Some g.0) number g.1) ∙ there) in
        let low : s.next < s.next = subst (λ (c : CoordState). s.next < c.next) same g.3 in
        omega arith

    -- ---- a view is submitted

    module _ (proc : ℕ) (args : List ℤ) (procedure : proc ≡ proc_of plan calls (next_id s)) (arguments : args ≡ args_of plan calls (next_id s)) (viewed : is_view_of plan proc ≡ true)
        (some : 0 < length (groups_of plan proc)) where
      abbrev new_view : View
      new_view = first_round (next_id s) proc args

      abbrev begun : World
      begun = at_coord w n (accepted_view plan s new_view).state (reads_of plan new_view) (Submitted (next_id s) proc args ∷ [])

      new_submitted : WasSubmitted (w.history ++ Submitted (next_id s) proc args ∷ []) (next_id s)
      new_submitted = (proc, args, has_right (Submitted (next_id s) proc args) w.history (Submitted (next_id s) proc args ∷ []) (inl refl))

      later_submitted : (t : TxnId) → WasSubmitted w.history t → WasSubmitted (w.history ++ Submitted (next_id s) proc args ∷ []) t
      later_submitted t k = (k.0, k.1, has_left (Submitted t k.0 k.1) w.history (Submitted (next_id s) proc args ∷ []) k.2)

      silent : (id : TxnId) (reply : List ℤ) → ¬ Has (Answered id reply) (Submitted (next_id s) proc args ∷ [])
      silent id reply (inl e) = apart e
        where
          apart : Answered id reply ≢ Submitted (next_id s) proc args
          apart e = cc
      silent id reply (inr h) = h

      looks : looks_in (length w.order) (reads_of plan new_view) ≡ record { id = next_id s; behind = length w.order } ∷ []
      looks = one_look plan new_view (length w.order) some

      sent_read : (e : Envelope) → Has e (map (sent_by (Coord n)) (reads_of plan new_view)) → IsReadOf plan new_view e
      sent_read e h = reads_are plan new_view (Coord n) (view_groups plan new_view) (group_there plan new_view) e h

      is_view : is_view_id plan calls (next_id s) ≡ true
      is_view = ap (is_view_of plan) (sym procedure) ∙ viewed

      -- an old id is none of it
      old_id : (t : TxnId) → WasSubmitted w.history t → next_id s ≢ t
      old_id t h e = fresh (subst (WasSubmitted w.history) (sym e) h)

      no_old_look : (t : TxnId) → WasSubmitted w.history t → (k : Look) → Has k (looks_in (length w.order) (reads_of plan new_view)) → k.id ≢ t
      no_old_look t h k l e = old_id t h (sym (ap (λ (l : Look). l.id) (has_one k (record { id = next_id s; behind = length w.order }) (subst (λ ls. Has k ls) looks l))) ∙ e)

      kept_new : Kept (at_coord w n (accepted_view plan s (first_round (next_id s) proc args)).state (reads_of plan (first_round (next_id s) proc args)) (Submitted (next_id s) proc args ∷ [])) log (first_round (next_id s) proc args)
      kept_new =
          record {
            since = log;
            reached = inv;
            grows = no_steps;
            last_look = record { front = w.looks; back = []; is = ap (λ l. w.looks ++ l) looks ∙ ap (λ l. w.looks ++ record { id = next_id s; behind = length l } ∷ []) order; none = λ k h. absurd h };
            submitted = new_submitted;
            unanswered = λ reply h. elim (has_append (Answered (next_id s) reply) w.history (Submitted (next_id s) proc args ∷ []) h) [ inl k ↦ fresh (m.told (next_id s) reply k) | inr k ↦ silent (next_id s) reply k ];
            view = is_view;
            procedure = procedure;
            arguments = arguments;
            rounds = record {
              reads = λ e h r p g l f. elim (has_append e w.sent (map (sent_by (Coord n)) (reads_of plan new_view)) h) [
                | inl k ↦ absurd (fresh (subst (λ (msg : Msg). MessageIsFor plan calls w.history msg e.to) f (m.are_for.messages e k)).2.submitted)
                | inr k ↦ (let z = (read_id plan calls asked S start before new_view e (sent_read e k) (next_id s) r p g l f).1 in omega arith)
              ];
              kept = λ k z at q h same. absurd (fresh (subst (WasSubmitted w.history) same (m.are_for.kept k z at q h).submitted));
              oks = λ e h r g shard vs outs f. elim (has_append e w.sent (map (sent_by (Coord n)) (reads_of plan new_view)) h) [
                | inl k ↦ absurd (fresh (subst (λ (msg : Msg). MessageIsFor plan calls w.history msg e.to) f (m.are_for.messages e k)).0.submitted)
                | inr k ↦ absurd (read_no_ok plan calls asked S start before new_view e (sent_read e k) (next_id s) r g shard vs outs f)
              ];
            };
            got = λ ok h. absurd h;
            last = λ ok h. absurd h;
          }

      kept_old : (x : View) → Kept w log x → Kept (at_coord w n (accepted_view plan s (first_round (next_id s) proc args)).state (reads_of plan (first_round (next_id s) proc args)) (Submitted (next_id s) proc args ∷ [])) log x
      kept_old x k =
          kept_on plan calls asked S start before w begun log log no_steps x (looks_in (length w.order) (reads_of plan new_view)) refl (no_old_look x.id k.submitted)
          (Submitted (next_id s) proc args ∷ []) refl (silent x.id)
          (λ since from rounds. rounds_on plan calls asked S start before w begun log log no_steps x.id x.round since (map (sent_by (Coord n)) (reads_of plan new_view)) refl
          (λ e h r p g l f. absurd (old_id x.id k.submitted (read_id plan calls asked S start before new_view e (sent_read e h) x.id r p g l f).0))
          (λ e h r g shard vs outs f. absurd (read_no_ok plan calls asked S start before new_view e (sent_read e h) x.id r g shard vs outs f))
          rounds.kept rounds)
          k

      given_new : (t : TxnId) → WasSubmitted (w.history ++ Submitted (next_id s) proc args ∷ []) t
          → (c : CoordState) × (slice_get (slice_set w.coords n (accepted_view plan s (first_round (next_id s) proc args)).state) t.coord ≡ Some c) × (c.number ≡ t.coord) × (t.seq < c.next)
      given_new t h = elim (has_append (Submitted t h.0 h.1) w.history (Submitted (next_id s) proc args ∷ []) h.2) [
        | inl k ↦ old (m.given t (h.0, h.1, k)) (cases_eq n t.coord)
        | inr k ↦
            (let same : t ≡ next_id s = the_id t (next_id s) h.0 proc h.1 args (has_one (Submitted t h.0 h.1) (Submitted (next_id s) proc args) k) in
            subst (λ (t : TxnId). (c : CoordState) × (slice_get (slice_set w.coords n (accepted_view plan s new_view).state) t.coord ≡ Some c) × (c.number ≡ t.coord) × (t.seq < c.next)) (sym same)
            ((accepted_view plan s new_view).state, subst (λ k. slice_get (slice_set w.coords n (accepted_view plan s new_view).state) k ≡ Some (accepted_view plan s new_view).state) (sym number) (get-set_here w.coords n s (accepted_view plan s new_view).state there), refl, omega arith))
      ]
        where
          the_id : (a b : TxnId) (p q : ℕ) (x y : List ℤ) → Submitted a p x ≡ Submitted b q y → a ≡ b
          the_id a b p q x y e = cc

          old : (c : CoordState) × (slice_get w.coords t.coord ≡ Some c) × (c.number ≡ t.coord) × (t.seq < c.next) → (n ≡ t.coord) ⊎ (n ≢ t.coord)
              → (c : CoordState) × (slice_get (slice_set w.coords n (accepted_view plan s (first_round (next_id s) proc args)).state) t.coord ≡ Some c) × (c.number ≡ t.coord) × (t.seq < c.next)
          old g (inl e) =
              let same : g.0 ≡ s = found_one g.0 s (sym (subst (λ k. slice_get w.coords k ≡ Some g.0) (sym e) g.1) ∙ there) in
              let low = subst (λ (c : CoordState). t.seq < c.next) same g.3 in
              ((accepted_view plan s new_view).state, subst (λ k. slice_get (slice_set w.coords n (accepted_view plan s new_view).state) k ≡ Some (accepted_view plan s new_view).state) e (get-set_here w.coords n s (accepted_view plan s new_view).state there), number ∙ e, omega arith)
          old g (inr o) = (g.0, get-set_other w.coords n t.coord (accepted_view plan s new_view).state o ∙ g.1, g.2, g.3)

      -- which views coordinators keep then
      coord_cases : (k : ℕ) (c : CoordState) → slice_get (slice_set w.coords n (accepted_view plan s (first_round (next_id s) proc args)).state) k ≡ Some c → (x : View) → Has x c.views
          → ((b : CoordState) × (slice_get w.coords k ≡ Some b) × Has x b.views × ((n ≡ k) → b ≡ s)) ⊎ ((n ≡ k) × (x ≡ first_round (next_id s) proc args))
      coord_cases k c at x h = elim (get-set_cases w.coords n k s (accepted_view plan s new_view).state c there at) [
        | inl e ↦ elim (has_more x new_view s.views (subst (λ (c : CoordState). Has x c.views) e.1 h)) [
          | inl j ↦ inl (s, subst (λ k. slice_get w.coords k ≡ Some s) e.0 there, j, λ z. refl)
          | inr j ↦ inr (e.0, j)
        ]
        | inr e ↦ inl (c, e.1, h, λ z. absurd (e.0 z))
      ]

      pub view_submitted : Mean (at_coord w n (accepted_view plan s (first_round (next_id s) proc args)).state (reads_of plan (first_round (next_id s) proc args)) (Submitted (next_id s) proc args ∷ [])) log
      view_submitted =
          record {
            versions = m.versions;
            are_for = for_on plan calls asked S start before w begun log log no_steps (Submitted (next_id s) proc args ∷ []) refl (map (sent_by (Coord n)) (reads_of plan new_view)) refl
                (λ e h. read_is_for plan calls asked S start before (w.history ++ Submitted (next_id s) proc args ∷ []) new_view new_submitted is_view procedure arguments e (sent_read e h)) m.are_for.kept m.are_for;
            views = λ k c at x h. elim (coord_cases k c at x h) [
              | inl j ↦ kept_old x (m.views k j.0 j.1 x j.2)
              | inr j ↦ subst (Kept begun log) (sym j.1) kept_new
            ];
            answered = λ id reply view h. elim (has_append (Answered id reply) w.history (Submitted (next_id s) proc args ∷ []) h) [
              | inl k ↦ answered_on plan calls asked S start before w begun log log no_steps id reply (looks_in (length w.order) (reads_of plan new_view)) refl (no_old_look id (m.told id reply k)) [] (sym (append-nil w.order)) (m.answered id reply view k)
              | inr k ↦ absurd (silent id reply k)
            ];
            given = given_new;
            numbers = λ k c at. elim (get-set_cases w.coords n k s (accepted_view plan s new_view).state c there at) [
              | inl e ↦ ap (λ (c : CoordState). c.number) e.1 ∙ (number ∙ e.0)
              | inr e ↦ m.numbers k c e.1
            ];
            told = λ t reply h. elim (has_append (Answered t reply) w.history (Submitted (next_id s) proc args ∷ []) h) [ inl k ↦ later_submitted t (m.told t reply k) | inr k ↦ absurd (silent t reply k) ];
            own = λ k c at x h. elim (coord_cases k c at x h) [
              | inl j ↦ m.own k j.0 j.1 x j.2
              | inr j ↦ ap (λ (x : View). x.id.coord) j.1 ∙ (number ∙ j.0)
            ];
            one = λ k c at x y h i same. both k c at x y (coord_cases k c at x h) (coord_cases k c at y i) same;
          }
        where
          both : (k : ℕ) (c : CoordState) → slice_get (slice_set w.coords n (accepted_view plan s (first_round (next_id s) proc args)).state) k ≡ Some c → (x y : View)
              → ((b : CoordState) × (slice_get w.coords k ≡ Some b) × Has x b.views × ((n ≡ k) → b ≡ s)) ⊎ ((n ≡ k) × (x ≡ first_round (next_id s) proc args))
              → ((b : CoordState) × (slice_get w.coords k ≡ Some b) × Has y b.views × ((n ≡ k) → b ≡ s)) ⊎ ((n ≡ k) × (y ≡ first_round (next_id s) proc args)) → x.id ≡ y.id → x ≡ y
          both k c at x y (inl i) (inl j) same = m.one k i.0 i.1 x y i.2 (subst (λ (c : CoordState). Has y c.views) (found_one j.0 i.0 (sym j.1 ∙ i.1)) j.2) same
          both k c at x y (inl i) (inr j) same = absurd (old_id x.id (m.views k i.0 i.1 x i.2).submitted (sym (same ∙ ap (λ (v : View). v.id) j.1)))
          both k c at x y (inr i) (inl j) same = absurd (old_id y.id (m.views k j.0 j.1 y j.2).submitted (sym (ap (λ (v : View). v.id) i.1) ∙ same))
          both k c at x y (inr i) (inr j) same = i.1 ∙ sym j.1

    -- ---- a view is another one of the same id

    module _ (v y : View) (has : Has v s.views) (same_id : y.id ≡ v.id) (outs : List Outgoing)
        (sent_are : (e : Envelope) → Has e (map (sent_by (Coord n)) outs) → (is_of_view e.msg ≡ false) ⊎ IsReadOf plan y e)
        (looks_are : (k : Look) → Has k (looks_in (length w.order) outs) → k.id ≡ v.id) where
      abbrev after_view : CoordState
      after_view = with_view s y

      kept_v : Kept w log v
      kept_v = m.views n s there v has

      -- a view among them is this one, or an old one of another id
      view_cases : (x : View) → Has x (with_view s y).views → (x ≡ y) ⊎ (Has x s.views × (x.id ≢ v.id))
      view_cases x h =
          let q = from_has_map (λ (u : View). if is_txn u.id y.id then y else u) x s.views h in
          go q.0 q.1 q.2 (is_txn q.0.id y.id) refl
        where
          go : (u : View) → Has u s.views → x ≡ (if is_txn u.id y.id then y else u) → (b : Bool) → is_txn u.id y.id ≡ b → (x ≡ y) ⊎ (Has x s.views × (x.id ≢ v.id))
          go u k e true f = inl (e ∙ ap (λ b. if b then y else u) f)
          go u k e false f =
              let same : x ≡ u = e ∙ ap (λ b. if b then y else u) f in
              inr (subst (λ (z : View). Has z s.views) (sym same) k, λ d. false≢true (sym f ∙ (ap (λ (z : View). is_txn z.id y.id) (sym same) ∙ (ap (λ t. is_txn t y.id) (d ∙ sym same_id) ∙ is_txn-same y.id))))

      coord_views : (k : ℕ) (c : CoordState) → slice_get (slice_set w.coords n (with_view s y)) k ≡ Some c → (x : View) → Has x c.views
          → ((n ≡ k) × (x ≡ y)) ⊎ ((b : CoordState) × (slice_get w.coords k ≡ Some b) × Has x b.views × (x.id ≢ v.id))
      coord_views k c at x h = elim (get-set_cases w.coords n k s (with_view s y) c there at) [
        | inl e ↦ elim (view_cases x (subst (λ (c : CoordState). Has x c.views) e.1 h)) [
          | inl j ↦ inl (e.0, j)
          | inr j ↦ inr (s, subst (λ k. slice_get w.coords k ≡ Some s) e.0 there, j.0, j.1)
        ]
        | inr e ↦ inr (c, e.1, h, λ d. e.0 (sym (m.own n s there v has) ∙ (ap (λ (t : TxnId). t.coord) (sym d) ∙ m.own k c e.1 x h)))
      ]

      given_view : (t : TxnId) → WasSubmitted (w.history ++ []) t → (c : CoordState) × (slice_get (slice_set w.coords n (with_view s y)) t.coord ≡ Some c) × (c.number ≡ t.coord) × (t.seq < c.next)
      given_view t h = go (m.given t (subst (λ h. WasSubmitted h t) (append-nil w.history) h)) (cases_eq n t.coord)
        where
          go : (c : CoordState) × (slice_get w.coords t.coord ≡ Some c) × (c.number ≡ t.coord) × (t.seq < c.next) → (n ≡ t.coord) ⊎ (n ≢ t.coord)
              → (c : CoordState) × (slice_get (slice_set w.coords n (with_view s y)) t.coord ≡ Some c) × (c.number ≡ t.coord) × (t.seq < c.next)
          go g (inl e) =
              let same : g.0 ≡ s = found_one g.0 s (sym (subst (λ k. slice_get w.coords k ≡ Some g.0) (sym e) g.1) ∙ there) in
              (with_view s y, subst (λ k. slice_get (slice_set w.coords n (with_view s y)) k ≡ Some (with_view s y)) e (get-set_here w.coords n s (with_view s y) there), number ∙ e, subst (λ (c : CoordState). t.seq < c.next) same g.3)
          go g (inr o) = (g.0, get-set_other w.coords n t.coord (with_view s y) o ∙ g.1, g.2, g.3)

      apart_from : (k : ℕ) (c : CoordState) → slice_get w.coords k ≡ Some c → (x : View) → Has x c.views → x.id ≢ v.id → Kept (at_coord w n (with_view s y) outs []) log x
      apart_from k c at x h other =
          kept_on plan calls asked S start before w (at_coord w n (with_view s y) outs []) log log no_steps x (looks_in (length w.order) outs) refl (λ l j e. other (sym e ∙ looks_are l j)) [] refl (λ reply h. h)
          (λ since from rounds. rounds_on plan calls asked S start before w (at_coord w n (with_view s y) outs []) log log no_steps x.id x.round since (map (sent_by (Coord n)) outs) refl
          (λ e j r p g l f. elim (sent_are e j) [ inl z ↦ absurd (no_read plan calls asked S start before e.msg z x.id r p g l f) | inr z ↦ absurd (other (sym (read_id plan calls asked S start before y e z x.id r p g l f).0 ∙ same_id)) ])
          (λ e j r g shard vs outs f. elim (sent_are e j) [ inl z ↦ absurd (no_ok plan calls asked S start before e.msg z x.id r g shard vs outs f) | inr z ↦ absurd (read_no_ok plan calls asked S start before y e z x.id r g shard vs outs f) ])
          rounds.kept rounds)
          (m.views k c at x h)

      pub view_replaced : Kept (at_coord w n (with_view s y) outs []) log y → Mean (at_coord w n (with_view s y) outs []) log
      view_replaced kept_y =
          record {
            versions = m.versions;
            are_for = for_on plan calls asked S start before w (at_coord w n (with_view s y) outs []) log log no_steps [] refl (map (sent_by (Coord n)) outs) refl
                (λ e h. elim (sent_are e h) [
                  | inl z ↦ of_transactions_for plan calls asked S start before (w.history ++ []) e.msg e.to z
                  | inr z ↦ read_is_for plan calls asked S start before (w.history ++ []) y kept_y.submitted kept_y.view kept_y.procedure kept_y.arguments e z
                ]) m.are_for.kept m.are_for;
            views = λ k c at x h. elim (coord_views k c at x h) [
              | inl j ↦ subst (Kept (at_coord w n (with_view s y) outs []) log) (sym j.1) kept_y
              | inr j ↦ apart_from k j.0 j.1 x j.2 j.3
            ];
            answered = λ id reply view h.
                (let k = subst (λ h. Has (Answered id reply) h) (append-nil w.history) h in
                answered_on plan calls asked S start before w (at_coord w n (with_view s y) outs []) log log no_steps id reply (looks_in (length w.order) outs) refl
                (λ l j e. kept_v.unanswered reply (subst (λ (t : TxnId). Has (Answered t reply) w.history) (sym e ∙ looks_are l j) k)) [] (sym (append-nil w.order)) (m.answered id reply view k));
            given = given_view;
            numbers = λ k c at. elim (get-set_cases w.coords n k s (with_view s y) c there at) [
              | inl e ↦ ap (λ (c : CoordState). c.number) e.1 ∙ (number ∙ e.0)
              | inr e ↦ m.numbers k c e.1
            ];
            told = λ t reply h. let k = m.told t reply (subst (λ h. Has (Answered t reply) h) (append-nil w.history) h) in (k.0, k.1, has_left (Submitted t k.0 k.1) w.history [] k.2);
            own = λ k c at x h. elim (coord_views k c at x h) [
              | inl j ↦ ap (λ (x : View). x.id.coord) j.1 ∙ (ap (λ (t : TxnId). t.coord) same_id ∙ (m.own n s there v has ∙ j.0))
              | inr j ↦ m.own k j.0 j.1 x j.2
            ];
            one = λ k c at x z h i same. both k x z (coord_views k c at x h) (coord_views k c at z i) same;
          }
        where
          both : (k : ℕ) (x z : View) → ((n ≡ k) × (x ≡ y)) ⊎ ((b : CoordState) × (slice_get w.coords k ≡ Some b) × Has x b.views × (x.id ≢ v.id))
              → ((n ≡ k) × (z ≡ y)) ⊎ ((b : CoordState) × (slice_get w.coords k ≡ Some b) × Has z b.views × (z.id ≢ v.id)) → x.id ≡ z.id → x ≡ z
          both k x z (inl i) (inl j) same = i.1 ∙ sym j.1
          both k x z (inl i) (inr j) same = absurd (j.3 (sym same ∙ (ap (λ (x : View). x.id) i.1 ∙ same_id)))
          both k x z (inr i) (inl j) same = absurd (i.3 (same ∙ (ap (λ (x : View). x.id) j.1 ∙ same_id)))
          both k x z (inr i) (inr j) same = m.one k i.0 i.1 x z i.2 (subst (λ (c : CoordState). Has z c.views) (found_one j.0 i.0 (sym j.1 ∙ i.1)) j.2) same

    -- ---- a tick

    module _ (outs : List Outgoing) (sent_are : (e : Envelope) → Has e (map (sent_by (Coord n)) outs) → (is_of_view e.msg ≡ false) ⊎ ((x : View) × Has x s.views × IsReadOf plan x e)) where
      abbrev ticked : World
      ticked = at_coord_tick w n outs

      -- a read of it is of the round under way
      same_round : (k : ℕ) (c : CoordState) → slice_get w.coords k ≡ Some c → (x y : View) → Has x c.views → Has y s.views → y.id ≡ x.id → y.round ≡ x.round
      same_round k c at x y h i same =
          let here : n ≡ k = sym (m.own n s there y i) ∙ (ap (λ (t : TxnId). t.coord) same ∙ m.own k c at x h) in
          let one : c ≡ s = found_one c s (sym (subst (λ k. slice_get w.coords k ≡ Some c) (sym here) at) ∙ there) in
          ap (λ (v : View). v.round) (m.one n s there y x i (subst (λ (c : CoordState). Has x c.views) one h) same)

      pub view_ticked : Mean (at_coord_tick w n outs) log
      view_ticked =
          record {
            versions = m.versions;
            are_for = for_on plan calls asked S start before w ticked log log no_steps [] (sym (append-nil w.history)) (map (sent_by (Coord n)) outs) refl
                (λ e h. elim (sent_are e h) [
                  | inl z ↦ of_transactions_for plan calls asked S start before w.history e.msg e.to z
                  | inr z ↦ (let k = m.views n s there z.0 z.1 in read_is_for plan calls asked S start before w.history z.0 k.submitted k.view k.procedure k.arguments e z.2)
                ]) m.are_for.kept m.are_for;
            views = λ k c at x h.
                kept_on plan calls asked S start before w ticked log log no_steps x [] (sym (append-nil w.looks)) (λ l h. absurd h) [] (sym (append-nil w.history)) (λ reply h. h)
                (λ since from rounds. rounds_on plan calls asked S start before w ticked log log no_steps x.id x.round since (map (sent_by (Coord n)) outs) refl
                (λ e j r p g l f. elim (sent_are e j) [
                  | inl z ↦ absurd (no_read plan calls asked S start before e.msg z x.id r p g l f)
                  | inr z ↦ (let d = read_id plan calls asked S start before z.0 e z.2 x.id r p g l f in let same = same_round k c at x z.0 h z.1 d.0 in let round = d.1 in omega arith)
                ])
                (λ e j r g shard vs outs f. elim (sent_are e j) [ inl z ↦ absurd (no_ok plan calls asked S start before e.msg z x.id r g shard vs outs f) | inr z ↦ absurd (read_no_ok plan calls asked S start before z.0 e z.2 x.id r g shard vs outs f) ])
                rounds.kept rounds)
                (m.views k c at x h);
            answered = λ id reply view h. answered_on plan calls asked S start before w ticked log log no_steps id reply [] (sym (append-nil w.looks)) (λ l h. absurd h) [] (sym (append-nil w.order)) (m.answered id reply view h);
            given = m.given;
            numbers = m.numbers;
            told = m.told;
            own = m.own;
            one = m.one;
          }
