-- The order of every run, with the views put in, is a serial witness of its history
use Rattle.std.proofs.Common.{◌≡◌, ◌∙◌, ℕ, ◌+◌, ◌<◌, ◌≤◌, min, Bool, true, not, List, [], ◌++◌, map, length, sym, ap, subst, arith}
use Rattle.roc_sequence.specs.Lists.{Has}
use Rattle.roc_sequence.specs.Places.{IsListed}
use Rattle.roc_sequence.proofs.Members.{has_left, has_filter, from_has_filter}
use Rattle.roc_base.specs.declared.id.TxnId.{TxnId}
use Rattle.roc_base.specs.TxnId.{is_txn}
use Rattle.roc_rows.specs.declared.cell.Cell.{Cell}
use Rattle.roc_rows.specs.Versions.{version}
use Rattle.roc_plan.specs.Groups.{Plan, groups_of, is_view_of}
use Rattle.roc_whole.specs.Serial as whole
use Rattle.roc_law_log.specs.Scheme.{Scheme, IsSoundScheme}
use Rattle.roc_law_log.specs.Log.{Log, first_log}
use Rattle.roc_law_log.proofs.Following.{AreFound}
use Rattle.roc_step.specs.State.{Viewing}
use Rattle.roc_coord.specs.State.{CoordState}
use Rattle.roc_audit.specs.declared.entry.Entry.{Entry}
use Rattle.roc_audit.specs.declared.entry.Entry.TheVariants.{Submitted, Answered}
use Rattle.roc_audit.specs.Woven.{entry_id}
use Rattle.roc_law_protocol.specs.PlanAssumptions.{IsSchemeOf}
use Rattle.roc_law_protocol.specs.Beginnings as protocol
use Rattle.roc_law_protocol.specs.Beginnings.{IsBeginning}
use Rattle.roc_law_protocol.specs.Inner.Given.{LogLaws, StoreLaws}
use Rattle.roc_law_protocol.specs.World as transactions
use Rattle.roc_law_protocol.proofs.Means.{entry_run}
use Rattle.roc_law_protocol.proofs.Firsts.{found_at}
use Rattle.roc_law_protocol.proofs.AcceptedSubmissions.{submissions_from}
use Rattle.roc_law_protocol.proofs.Logged.{Agrees, IsLogged, ordered_submitted}
use Rattle.roc_law_protocol.proofs.Worlds.{step_logged}
use Rattle.roc_law_protocol.proofs.Onward.{agrees_before}
use Rattle.roc_law_protocol.proofs.Witness.{begun_logged}
use Rattle.roc_law_world.specs.World.{World, Beginning, begun_world}
use Rattle.roc_law_world.specs.Run.{Stepped, IsRunFrom, at_beginning, steps_on}
use Rattle.roc_law_world.proofs.Runs.{beside, grows}
use Rattle.roc_law_world.proofs.Besides.{Holds}
use Rattle.roc_law_world.proofs.Steps.{follows, tells_before}
use Rattle.roc_law_world.proofs.Versions.{most}
use Rattle.roc_law_world.proofs.Readings.{ViewLaws, AreSteady}
use Rattle.roc_law_world.proofs.ViewMeans.{TellsCalls, is_view_id, ViewsMean}
use Rattle.roc_law_world.proofs.ViewRuns.{views_step}
use Rattle.roc_law_world.specs.Beside.{TellsViews}
use Rattle.roc_law_world.proofs.InTime.{AreInTime, IsOrderTold}
use Rattle.roc_law_world.proofs.ViewWitness.{in_time_step, kept_in_time}

-- ---- in every world of a run

module _ (plan : Plan) (calls : TxnId → whole.Call) (asked : TxnId → whole.Call) (S : Scheme) (b : Beginning) (is : IsSchemeOf plan asked S) (laws : LogLaws S b.of_transactions.store) (stores : StoreLaws) (begins : IsBeginning plan b.of_transactions)
    (sound : IsSoundScheme S) (found : AreFound S b.of_transactions.store) (view_laws : ViewLaws plan) (steady : AreSteady S b.of_transactions.store) (some_group : (proc : ℕ) → is_view_of plan proc ≡ true → 0 < length (groups_of plan proc))
    (few : (n : ℕ) (x : Cell) → version (b.versions n) x ≤ most) (coords : ℕ) where
  abbrev start : protocol.Beginning
  start = b.of_transactions

  abbrev is_view : TxnId → Bool
  is_view = is_view_id plan calls

  tells_calls_before : (front more : List Entry) → TellsCalls calls (front ++ more) → TellsCalls calls front
  tells_calls_before front more t id proc args h = t id proc args (has_left (Submitted id proc args) front more h)

  begun_views : ViewsMean plan calls asked S start b.versions (begun_world plan b coords) first_log
  begun_views =
      record {
        versions = λ n v at x on.
            (let same = found_at (λ n. record { versions = b.versions n; reads = [] }) 0 plan.program.shards n v at in
            ap (λ (v : Viewing). version v.versions x) same ∙ (ap (λ k. version (b.versions k) x) (zero_more n ∙ sym on) ∙ kept (version (b.versions (S.cell_shard x)) x) (few (S.cell_shard x) x)));
        are_for = record { messages = λ m h. absurd h; kept = λ n v at q h. absurd (subst (λ (v : Viewing). Has q v.reads) (found_at (λ n. record { versions = b.versions n; reads = [] }) 0 plan.program.shards n v at) h) };
        views = λ n c at v h. absurd (subst (λ (c : CoordState). Has v c.views) (found_at (protocol.begun_coord start) 0 coords n c at) h);
        answered = λ id reply v h. absurd h;
        given = λ t h. absurd h.2;
        numbers = λ n c at. ap (λ (c : CoordState). c.number) (found_at (protocol.begun_coord start) 0 coords n c at) ∙ zero_more n;
        told = λ t reply h. absurd h;
        own = λ n c at v h. absurd (subst (λ (c : CoordState). Has v c.views) (found_at (protocol.begun_coord start) 0 coords n c at) h);
        one = λ n c at v x h k same. absurd (subst (λ (c : CoordState). Has v c.views) (found_at (protocol.begun_coord start) 0 coords n c at) h);
      }
    where
      zero_more : (n : ℕ) → 0 + n ≡ n
      zero_more n = omega arith

      kept : (v : ℕ) → v ≤ most → v ≡ min (v + 0) most
      kept v h = grind arith

  -- what is of a world and of the one beside it, as a log tells it
  pub record IsLoggedBeside (w : World) (t : transactions.World) : Type 0 where
    pub log : Log
    pub logged : IsLogged plan asked S start is laws t log
    pub views : ViewsMean plan calls asked S start b.versions w log
    pub in_time : AreInTime is_view w

  module _ (w : World) (t : transactions.World) (holds : Holds plan is_view w t) (o : IsLoggedBeside w t) where
    -- each transaction of the order was submitted, and each answered one is in it
    pub order_is_told : IsOrderTold is_view w
    order_is_told =
        record {
          answered = λ x reply plain h.
              subst (λ l. IsListed is_txn l x) (sym (sym holds.beside.order ∙ o.logged.means.order))
              (o.logged.means.answered x reply (subst (λ l. Has (Answered x reply) l) (sym holds.beside.history) (has_filter (λ e. not (is_view (entry_id e))) (Answered x reply) w.history h (ap not plain)))).throughout.in_order;
          submitted = λ x h.
              let s = ordered_submitted plan asked S start is laws t o.log o.logged x (subst (λ l. IsListed is_txn l x) (sym holds.beside.order) h) in
              (s.0, s.1, (from_has_filter (λ e. not (is_view (entry_id e))) (Submitted x s.0 s.1) w.history (subst (λ l. Has (Submitted x s.0 s.1) l) holds.beside.history s.2)).0);
        }

  -- in every world of a run
  pub logged_beside : (steps : List Stepped) (w : World) (run : IsRunFrom plan b coords steps w) (tells : TellsViews plan is_view w.history) → TellsCalls calls w.history
      → Agrees asked (beside plan b coords is_view steps w run tells).world → IsLoggedBeside w (beside plan b coords is_view steps w run tells).world
  unfolding beside
  logged_beside steps w at_beginning tells told agrees =
      record {
        log = first_log;
        logged = begun_logged plan asked S start is laws stores begins coords;
        views = begun_views;
        in_time = record { few = λ l h. absurd h; rising = tt; looked = λ l h. absurd h; after = λ t l h. absurd h; before = λ t l h. absurd h; views = λ v u a c k. absurd k };
      }
  logged_beside steps w (steps_on {w = v} e o r h) tells told agrees =
      let g = grows plan v e o h in
      let views_told = tells_before plan is_view v.history g.more (subst (TellsViews plan is_view) g.is tells) in
      let x = beside plan b coords is_view _ v r views_told in
      let f = follows plan is_view v x.world x.holds e o tells h in
      let subs = submissions_from plan start coords x.others x.world x.run in
      let before = logged_beside _ v r views_told (tells_calls_before v.history g.more (subst (TellsCalls calls) g.is told)) (agrees_before plan x.world subs asked f.event f.outcome f.moves agrees) in
      let now = step_logged plan asked S start is laws x.world before.log subs before.logged f.event f.outcome f.moves agrees in
      record {
        log = now.0;
        logged = now.1;
        views =
            views_step plan calls asked S start b.versions is sound found view_laws steady laws.grows some_group v before.log now.0 before.views (laws.holds before.log before.logged.means.reached)
            (sym x.holds.beside.order ∙ before.logged.means.order) x.holds.coords e o h told f.outcome.world f.holds.beside
            (record {
              steps = now.2.steps;
              reached = laws.holds now.0 now.1.means.reached;
              grows = now.2.grows;
              means = now.1.means;
              groups = now.2.groups ∙ ap (λ l. before.log.past.ran ++ map (λ r. entry_run r.group) l) f.ran;
              each = λ r k. now.2.each r (subst (λ l. Has r l) (sym f.ran) k);
              ordered = ordered_submitted plan asked S start is laws f.outcome.world now.0 now.1;
            });
        in_time =
            in_time_step plan is_view v before.in_time (order_is_told v x.world x.holds before) (kept_in_time plan calls asked S start b.versions v before.log before.views) x.holds.coords e o h tells;
      }
