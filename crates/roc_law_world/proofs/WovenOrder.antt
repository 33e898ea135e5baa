-- The order of every run, with the views put in, is a serial witness of its history
use Rattle.std.proofs.Common.{◌≡◌, ◌∙◌, ℕ, ℤ, ◌<◌, ◌≤◌, Bool, true, not, List, [], Option, Some, length, map, take, unwrap_or, sym, ap, subst}
use Rattle.roc_sequence.specs.Lists.{Has}
use Rattle.roc_sequence.specs.Places.{IsListed}
use Rattle.roc_sequence.proofs.Members.{from_has_filter}
use Rattle.roc_base.specs.declared.id.TxnId.{TxnId}
use Rattle.roc_base.specs.TxnId.{is_txn}
use Rattle.roc_plan.specs.Groups.{Plan, groups_of, is_view_of, is_transaction}
use Rattle.roc_plan.specs.Accepted.{IsAccepted}
use Rattle.roc_whole.specs.Serial as whole
use Rattle.roc_law_orders.specs.Runs.{stage_behind}
use Rattle.roc_law_orders.specs.Orders.{one_by_one}
use Rattle.roc_law_log.specs.Scheme.{Scheme, IsSoundScheme}
use Rattle.roc_law_log.proofs.Following.{AreFound}
use Rattle.roc_audit.specs.declared.entry.Entry.{Entry}
use Rattle.roc_audit.specs.declared.entry.Entry.TheVariants.{Submitted}
use Rattle.roc_audit.specs.History.{WasAnswered}
use Rattle.roc_audit.specs.Witness.{submitted_call, submitted_calls, IsSerialWitnessFrom}
use Rattle.roc_audit.specs.Woven.{Look, store_seen, entry_id, without_views, LeaveTheStore, AreLooks}
use Rattle.roc_audit.proofs.Histories.{call_of-is}
use Rattle.roc_law_protocol.specs.PlanAssumptions.{IsSchemeOf, HasSchemesFrom}
use Rattle.roc_law_protocol.specs.Inner.Given.{LogLaws, SerialLaws, StoreLaws}
use Rattle.roc_law_protocol.proofs.Serial.{call_in, agrees, procedures, order_serial}
use Rattle.roc_law_protocol.proofs.AcceptedSubmissions.{submissions_from}
use Rattle.roc_law_protocol.proofs.Logged.{Agrees, ordered_submitted}
use Rattle.roc_law_protocol.proofs.Submissions.{AreSubmissions}
use Rattle.roc_law_protocol.proofs.Transactions.{HasTransaction}
use Rattle.roc_law_world.specs.World.{World, Beginning}
use Rattle.roc_law_world.specs.Beginnings.{IsViewBeginning}
use Rattle.roc_law_world.specs.Run.{Stepped, IsRunFrom}
use Rattle.roc_law_world.specs.Beside.{TellsViews}
use Rattle.roc_law_world.specs.Witness.{was_answered, shown}
use Rattle.roc_law_world.proofs.Shown.{last_from}
use Rattle.roc_law_world.proofs.Numbered.{numbered}
use Rattle.roc_law_world.proofs.Readings.{ViewLaws, AreSteady}
use Rattle.roc_law_world.proofs.Runs.{IsRunBeside, beside}
use Rattle.roc_law_world.proofs.ViewLogs.{IsLoggedBeside, logged_beside}
use Rattle.roc_law_world.proofs.ViewMeans.{TellsCalls, is_view_id}
use Rattle.roc_law_world.proofs.ViewWitness.{calls_tell_views, views_fit, views_leave}
use Rattle.roc_law_world.proofs.WholeViews.{ViewParts}

abbrev pub no_call : TxnId → whole.Call
no_call t = record { id = t; procedure = 0; arguments = [] }

-- what is called in a history; who called nothing calls the first procedure
abbrev pub called_in : List Entry → TxnId → whole.Call
called_in history t = unwrap_or (submitted_call t history) (no_call t)

module _ (plan : Plan) (b : Beginning) (coords : ℕ) (steps : List Stepped) (w : World) (run : IsRunFrom plan b coords steps w) where
  -- the calls are those of the history
  pub tells : TellsCalls (called_in w.history) w.history
  tells t p a h =
      let o = numbered plan b coords steps w run in
      let same = call_of-is w.history t p a (λ q b k. o.one t q p b a k h) h in
      (ap (λ (o : Option whole.Call). (unwrap_or o (no_call t)).procedure) (sym same), ap (λ (o : Option whole.Call). (unwrap_or o (no_call t)).arguments) (sym same))

  abbrev pub is_view : TxnId → Bool
  is_view = is_view_id plan (called_in w.history)

  pub tells_them : TellsViews plan is_view w.history
  tells_them = calls_tell_views plan (called_in w.history) w.history tells

  -- the run of transactions beside
  abbrev pub run_beside : IsRunBeside plan b coords is_view steps w
  run_beside = beside plan b coords is_view steps w run tells_them

  pub leave : IsAccepted plan → LeaveTheStore plan.program is_view w.history
  leave accepted = views_leave plan is_view w.history accepted.well_formed tells_them

  pub submissions : AreSubmissions plan run_beside.world.history run_beside.world.coords
  submissions = submissions_from plan b.of_transactions coords run_beside.others run_beside.world run_beside.run

  -- of transactions alone the order is one
  pub alone :
      IsViewBeginning plan b → HasSchemesFrom plan b.of_transactions.store → ((S : Scheme) → IsSoundScheme S → LogLaws S b.of_transactions.store) → ((S : Scheme) → IsSoundScheme S → SerialLaws S b.of_transactions.store) → StoreLaws
      → IsSerialWitnessFrom plan.program b.of_transactions.store (without_views is_view w.history) w.order
  alone begins schemes laws serials stores =
      subst (λ history. IsSerialWitnessFrom plan.program b.of_transactions.store history w.order) run_beside.holds.beside.history
      (subst (λ order. IsSerialWitnessFrom plan.program b.of_transactions.store run_beside.world.history order) run_beside.holds.beside.order
      (order_serial plan b.of_transactions begins.of_transactions schemes laws serials stores coords run_beside.others run_beside.world run_beside.run))

  -- ---- looks

  -- the looks of answered views fit, each behind no more than there are
  abbrev pub LooksFit : Type 0
  LooksFit = AreLooks plan.program b.of_transactions.store is_view w.history w.order (shown w) × ((l : Look) → Has l (shown w) → l.behind ≤ length w.order)

  -- this is what transactions call, in a scheme by which the first of the order leave what they leave whole
  pub record IsCalled (asked : TxnId → whole.Call) (S : Scheme) : Type 0 where
    pub is : IsSchemeOf plan asked S
    pub sound : IsSoundScheme S
    pub agrees : Agrees asked run_beside.world
    pub stages :
        (k : ℕ)
        → (stage_behind S.behaviour b.of_transactions.store (one_by_one S.behaviour (take k w.order))).store
        ≡ whole.serial_store plan.program b.of_transactions.store (map asked (take k w.order))

  -- where some procedure may write, what the history tells
  pub transactions_called : (schemes : HasSchemesFrom plan b.of_transactions.store) (some : HasTransaction plan) → IsCalled (call_in some.0 run_beside.world) (schemes.scheme (call_in some.0 run_beside.world))
  transactions_called schemes some =
      let asked : TxnId → whole.Call = call_in some.0 run_beside.world in
      let known : (t : TxnId) → is_transaction plan (asked t).procedure ≡ true = procedures plan some.0 run_beside.world submissions some.1 in
      record {
        is = schemes.of asked known;
        sound = schemes.sound asked known;
        agrees = agrees plan some.0 run_beside.world submissions;
        stages = λ k. schemes.stores asked known (take k w.order);
      }

  module _ (begins : IsViewBeginning plan b) (laws : (S : Scheme) → IsSoundScheme S → LogLaws S b.of_transactions.store) (stores : StoreLaws) (accepted : IsAccepted plan)
      (asked : TxnId → whole.Call) (S : Scheme) (c : IsCalled asked S) (found : AreFound S b.of_transactions.store) (steady : AreSteady S b.of_transactions.store)
      (parts : ViewParts plan) (view_laws : ViewLaws plan) (some_group : (proc : ℕ) → is_view_of plan proc ≡ true → 0 < length (groups_of plan proc)) where
    logged :
        IsLoggedBeside plan (called_in w.history) asked S b c.is (laws S c.sound) stores begins.of_transactions c.sound found view_laws steady some_group begins.versions coords
        w run_beside.world
    logged =
        logged_beside plan (called_in w.history) asked S b c.is (laws S c.sound) stores begins.of_transactions c.sound found view_laws steady some_group begins.versions coords
        steps w run tells_them tells c.agrees

    -- who is in the order was submitted, with what it is asked
    called : (t : TxnId) → IsListed is_txn w.order t → submitted_call t w.history ≡ Some (asked t)
    called t h =
        let o = numbered plan b coords steps w run in
        let beside = run_beside.holds.beside in
        let listed = subst (λ l. IsListed is_txn l t) (sym beside.order) h in
        let s = ordered_submitted plan asked S b.of_transactions c.is (laws S c.sound) run_beside.world logged.log logged.logged t listed in
        let all = (from_has_filter (λ e. not (is_view (entry_id e))) (Submitted t s.0 s.1) w.history (subst (λ l. Has (Submitted t s.0 s.1) l) beside.history s.2)).0 in
        let g = c.agrees in
        call_of-is w.history t s.0 s.1 (λ q b k. o.one t q s.0 b s.1 k all) all
        ∙ (λ i. Some (record { id = sym (g.id t s.0 s.1 s.2) i; procedure = g.proc t s.0 s.1 s.2 i; arguments = g.args t s.0 s.1 s.2 i }))

    pub looks_fit : LooksFit
    looks_fit = (
      views_fit plan (called_in w.history) asked S b.of_transactions b.versions w logged.log logged.views accepted parts tells c.stages called logged.in_time,
      λ l h. logged.in_time.few l (last_from (was_answered w.history) w.looks l h),
    )

-- an answered view read what the first so many transactions of the order leave
pub prefix : (plan : Plan) (b : Beginning) (coords : ℕ) (steps : List Stepped) (w : World) → IsRunFrom plan b coords steps w
    → (is_view : TxnId → Bool) → TellsViews plan is_view w.history → AreLooks plan.program b.of_transactions.store is_view w.history w.order (shown w) → ((l : Look) → Has l (shown w) → l.behind ≤ length w.order)
    → (v : TxnId) (p : ℕ) (a : List ℤ) → Has (Submitted v p a) w.history → is_view_of plan p ≡ true → (reply : List ℤ) → WasAnswered w.history v reply
    → (behind : ℕ) × (behind ≤ length w.order)
    × (reply ≡ (whole.run_of plan.program (whole.serial_store plan.program b.of_transactions.store (submitted_calls w.history (take behind w.order))) (record { id = v; procedure = p; arguments = a })).reply)
prefix plan b coords steps w run is_view tells looks few v p a h viewed reply answered =
    let r = looks.replies v reply (tells v p a h ∙ viewed) answered in
    let o = numbered plan b coords steps w run in
    let same : Some r.3 ≡ Some (record { id = v; procedure = p; arguments = a }) = sym r.4 ∙ call_of-is w.history v p a (λ q b k. o.one v q p b a k h) h in
    (r.0.behind, few r.0 r.1, r.5 ∙ ap (λ c. (whole.run_of plan.program (store_seen plan.program b.of_transactions.store w.history w.order r.0) c).reply) (one_call r.3 (record { id = v; procedure = p; arguments = a }) same))
  where
    one_call : (c d : whole.Call) → Some c ≡ Some d → c ≡ d
    one_call c d e = cc
