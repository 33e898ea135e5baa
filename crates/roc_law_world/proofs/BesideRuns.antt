-- The log goes on, and of a step of which nothing comes for views what is kept for them says of the log what it has to
use Rattle.std.proofs.Common.{◌≡◌, ◌≢◌, ◌∙◌, ◌⊎◌, inl, inr, ℕ, ℤ, ◌<◌, ◌≤◌, Bool, true, false, not, List, [], ◌++◌, Some, map, length, refl, sym, ap, subst, arith, append-nil}
use Rattle.std.proofs.lemmas.Bool.{cases_eq}
use Rattle.std.specs.Prelude.{slice_get, slice_set}
use Rattle.roc_sequence.specs.Lists.{Has}
use Rattle.roc_sequence.specs.Places.{IsListed}
use Rattle.roc_sequence.proofs.Members.{has_append, has_left, has_filter, from_has_filter}
use Rattle.roc_base.specs.declared.id.TxnId.{TxnId}
use Rattle.roc_base.specs.TxnId.{is_txn}
use Rattle.roc_msg.specs.declared.msg.Envelope.{Envelope}
use Rattle.roc_rows.specs.declared.cell.Cell.{Cell}
use Rattle.roc_rows.specs.Versions.{Counts}
use Rattle.roc_plan.specs.Groups.{Plan, groups_of, is_view_of}
use Rattle.roc_whole.specs.Serial as whole
use Rattle.roc_law_log.specs.Scheme.{Scheme, IsSoundScheme}
use Rattle.roc_law_log.specs.Log.{Log}
use Rattle.roc_law_log.specs.Steps.{LogSteps}
use Rattle.roc_law_log.specs.Invariants.{LogInvariants, LogGrows}
use Rattle.roc_law_log.specs.Clean.{writes_to}
use Rattle.roc_law_log.proofs.Following.{AreFound}
use Rattle.roc_coord.specs.State.{CoordState}
use Rattle.roc_readonly.specs.declared.view.View.{View}
use Rattle.roc_audit.specs.declared.entry.Entry.{Entry}
use Rattle.roc_audit.specs.declared.entry.Entry.TheVariants as entry
use Rattle.roc_audit.specs.History.{WasSubmitted}
use Rattle.roc_audit.specs.Woven.{without_views, entry_id}
use Rattle.roc_law_protocol.specs.PlanAssumptions.{IsSchemeOf}
use Rattle.roc_law_protocol.specs.Beginnings as protocol
use Rattle.roc_law_protocol.specs.Happens.{RanAt}
use Rattle.roc_law_protocol.specs.World as transactions
use Rattle.roc_law_protocol.proofs.Means.{entry_run, RanMeans, WorldMeans}
use Rattle.roc_law_world.specs.World.{World}
use Rattle.roc_law_world.specs.Beside.{is_of_view}
use Rattle.roc_law_world.proofs.Versions.{writes_more}
use Rattle.roc_law_world.proofs.Readings.{ViewLaws, AreSteady}
use Rattle.roc_law_world.proofs.ViewMeans.{is_view_id, ViewsMean}
use Rattle.roc_law_world.proofs.ViewsStay.{goes_on}
use Rattle.roc_law_protocol.proofs.Changed.{get-set_here, get-set_other, get-set_cases}

-- ---- what the world of transactions gives of a step

module _ (plan : Plan) (calls : TxnId → whole.Call) (asked : TxnId → whole.Call) (S : Scheme) (start : protocol.Beginning) (before : ℕ → Counts) where
  -- the log goes on, and says of the world beside what it has to
  pub record GoesOnBeside (t : transactions.World) (log later : Log) (ran : List RanAt) : Type 0 where
    pub steps : LogSteps S start.store log later
    pub reached : LogInvariants S start.store later
    pub grows : LogGrows S start.store log later
    pub means : WorldMeans plan asked S start later t
    pub groups : later.past.ran ≡ log.past.ran ++ map (λ r. entry_run r.group) ran
    pub each : (r : RanAt) → Has r ran → RanMeans plan asked S start later r
    pub ordered : (x : TxnId) → IsListed is_txn t.order x → WasSubmitted t.history x

  abbrev Mean : World → Log → Type 0
  Mean w log = ViewsMean plan calls asked S start before w log

  abbrev is_view : TxnId → Bool
  is_view = is_view_id plan calls

  -- ---- nothing is done for views

  module _ (w : World) (log later : Log) (m : Mean w log) (i : LogInvariants S start.store log) (t : transactions.World) (g : GoesOnBeside t log later []) where
    -- nothing ran, so nothing was written
    as_often : (x : Cell) → writes_to S start.store later x ≡ writes_to S start.store log x
    as_often x = let e = writes_more plan asked S start log later [] x i g.grows g.groups in omega arith

  -- an entry of the history beside is one of the whole
  whole_submitted : (h : List Entry) (x : TxnId) → WasSubmitted (without_views is_view h) x → WasSubmitted h x
  whole_submitted h x k = (k.0, k.1, (from_has_filter (λ e. not (is_view (entry_id e))) (entry.Submitted x k.0 k.1) h k.2).0)

  -- who was answered and is no view was submitted
  answered_submitted : (h : List Entry) (t : transactions.World) → t.history ≡ without_views is_view h → (later : Log) → WorldMeans plan asked S start later t
      → ((x : TxnId) → IsListed is_txn t.order x → WasSubmitted t.history x) → (x : TxnId) (reply : List ℤ) → is_view x ≡ false → Has (entry.Answered x reply) h → WasSubmitted h x
  answered_submitted h t same later means ordered x reply plain k =
      let here : Has (entry.Answered x reply) t.history = subst (λ l. Has (entry.Answered x reply) l) (sym same) (has_filter (λ e. not (is_view (entry_id e))) (entry.Answered x reply) h k (ap not plain)) in
      whole_submitted h x (subst (λ l. WasSubmitted l x) same (ordered x (subst (λ l. IsListed is_txn l x) (sym means.order) (means.answered x reply here).throughout.in_order)))

  -- ---- a step

  module _ (is : IsSchemeOf plan asked S) (sound : IsSoundScheme S) (found : AreFound S start.store) (laws : ViewLaws plan) (steady : AreSteady S start.store)
      (grow : (a b : Log) → LogInvariants S start.store a → LogSteps S start.store a b → LogGrows S start.store a b)
      (some_group : (proc : ℕ) → is_view_of plan proc ≡ true → 0 < length (groups_of plan proc))
      (w : World) (log later : Log) (m : Mean w log) (i : LogInvariants S start.store log) (same_order : w.order ≡ log.order) where
    -- a step of which nothing comes for views
    module _ (u : World) (t : transactions.World) (beside : t.history ≡ without_views is_view u.history) (ordered_same : t.order ≡ u.order) (g : GoesOnBeside t log later [])
        (viewing : u.viewing ≡ w.viewing) (new : List Envelope) (sent : u.sent ≡ w.sent ++ new) (ours : (e : Envelope) → Has e new → is_of_view e.msg ≡ false) (looks : u.looks ≡ w.looks)
        (told : List Entry) (history : u.history ≡ w.history ++ told) (silent : (id : TxnId) (reply : List ℤ) → is_view id ≡ true → ¬ Has (entry.Answered id reply) told) where
      -- where no coordinator's views change
      pub goes_on_so : (views : (n : ℕ) (c : CoordState) → slice_get u.coords n ≡ Some c → (v : View) → Has v c.views → (b : CoordState) × (slice_get w.coords n ≡ Some b) × Has v b.views)
          → (given : (t : TxnId) → WasSubmitted u.history t → (c : CoordState) × (slice_get u.coords t.coord ≡ Some c) × (c.number ≡ t.coord) × (t.seq < c.next))
          → (numbers : (n : ℕ) (c : CoordState) → slice_get u.coords n ≡ Some c → c.number ≡ n) → Mean u later
      goes_on_so views given numbers =
          let o = g.grows.order in
          goes_on plan calls asked S start before w u log later (record {
            steps = g.steps;
            as_often = as_often w log later m i t g;
            viewing = viewing;
            new = new;
            sent = sent;
            of_transactions = ours;
            looks = looks;
            told = told;
            history = history;
            silent = silent;
            ts = o.0;
            order = sym ordered_same ∙ (g.means.order ∙ (o.1 ∙ ap (λ l. l ++ o.0) (sym same_order)));
            views = views;
            given = given;
            answers = λ x reply h. either x reply (is_view x) refl h;
            numbers = numbers;
          }) m
        where
          either : (x : TxnId) (reply : List ℤ) (b : Bool) → is_view x ≡ b → Has (entry.Answered x reply) u.history → WasSubmitted u.history x
          either x reply false k h = answered_submitted u.history t beside later g.means g.ordered x reply k h
          either x reply true k h = elim (has_append (entry.Answered x reply) w.history told (subst (λ l. Has (entry.Answered x reply) l) history h)) [
            | inl j ↦ (let s = m.told x reply j in (s.0, s.1, subst (λ l. Has (entry.Submitted x s.0 s.1) l) (sym history) (has_left (entry.Submitted x s.0 s.1) w.history told s.2)))
            | inr j ↦ absurd (silent x reply k j)
          ]

      -- where no coordinator changes, and nothing is submitted
      pub goes_on_still : u.coords ≡ w.coords → told ≡ [] → Mean u later
      goes_on_still coords none =
          goes_on_so
          (λ n c at v h. (c, subst (λ l. slice_get l n ≡ Some c) coords at, h))
          (λ x h. let s = m.given x (subst (λ l. WasSubmitted l x) (history ∙ (ap (λ l. w.history ++ l) none ∙ append-nil w.history)) h) in (s.0, subst (λ l. slice_get l x.coord ≡ Some s.0) (sym coords) s.1, s.2, s.3))
          (λ n c at. m.numbers n c (subst (λ l. slice_get l n ≡ Some c) coords at))

      -- where one coordinator changes, but not its views, and its next sequence does not fall
      pub goes_on_at : (n : ℕ) (s after : CoordState) → slice_get w.coords n ≡ Some s → u.coords ≡ slice_set w.coords n after → after.views ≡ s.views → after.number ≡ s.number → s.next ≤ after.next
          → ((x : TxnId) (p : ℕ) (a : List ℤ) → Has (entry.Submitted x p a) told → (x.coord ≡ n) × (x.seq < after.next)) → Mean u later
      goes_on_at n s after there coords same number next new_ids =
          goes_on_so
          (λ k c at v h. elim (get-set_cases w.coords n k s after c there (subst (λ l. slice_get l k ≡ Some c) coords at)) [
            | inl e ↦ (s, subst (λ k. slice_get w.coords k ≡ Some s) e.0 there, subst (λ l. Has v l) (ap (λ (c : CoordState). c.views) e.1 ∙ same) h)
            | inr e ↦ (c, e.1, h)
          ])
          (λ x h. elim (has_append (entry.Submitted x h.0 h.1) w.history told (subst (λ l. Has (entry.Submitted x h.0 h.1) l) history h.2)) [
            | inl k ↦ old x (m.given x (h.0, h.1, k)) (cases_eq n x.coord)
            | inr k ↦
                (let p = new_ids x h.0 h.1 k in
                (after, subst (λ l. slice_get l x.coord ≡ Some after) (sym coords) (subst (λ k. slice_get (slice_set w.coords n after) k ≡ Some after) (sym p.0) (get-set_here w.coords n s after there)), number ∙ (m.numbers n s there ∙ sym p.0), p.1))
          ])
          (λ k c at. elim (get-set_cases w.coords n k s after c there (subst (λ l. slice_get l k ≡ Some c) coords at)) [
            | inl e ↦ ap (λ (c : CoordState). c.number) e.1 ∙ (number ∙ (m.numbers n s there ∙ e.0))
            | inr e ↦ m.numbers k c e.1
          ])
        where
          one : (a b : CoordState) → Some a ≡ Some b → a ≡ b
          one a b e = cc

          old : (x : TxnId) → (c : CoordState) × (slice_get w.coords x.coord ≡ Some c) × (c.number ≡ x.coord) × (x.seq < c.next) → (n ≡ x.coord) ⊎ (n ≢ x.coord)
              → (c : CoordState) × (slice_get u.coords x.coord ≡ Some c) × (c.number ≡ x.coord) × (x.seq < c.next)
          old x k (inl e) =
              let here : k.0 ≡ s = one k.0 s (sym (subst (λ j. slice_get w.coords j ≡ Some k.0) (sym e) k.1) ∙ there) in
              let low = subst (λ (c : CoordState). x.seq < c.next) here k.3 in
              (after, subst (λ l. slice_get l x.coord ≡ Some after) (sym coords) (subst (λ k. slice_get (slice_set w.coords n after) k ≡ Some after) e (get-set_here w.coords n s after there)), number ∙ (m.numbers n s there ∙ e), omega arith)
          old x k (inr o) = (k.0, subst (λ l. slice_get l x.coord ≡ Some k.0) (sym coords) (get-set_other w.coords n x.coord after o ∙ k.1), k.2, k.3)
