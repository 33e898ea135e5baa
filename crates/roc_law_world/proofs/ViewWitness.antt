-- What the world keeps for views gives the premises of the woven order
use Rattle.std.proofs.Common.{◌≡◌, ◌∙◌, ℕ, ℤ, ◌<◌, Bool, true, List, [], ◌∷◌, Option, Some, map, take, refl, sym, ap, subst, arith, inl, inr}
use Rattle.std.specs.List.{cons_option}
use Rattle.std.specs.Prelude.{slice_get}
use Rattle.roc_sequence.specs.Lists.{Has}
use Rattle.roc_sequence.specs.Places.{IsListed}
use Rattle.roc_sequence.proofs.Listed.{has_listed}
use Rattle.roc_sequence.proofs.Members.{same_there}
use Rattle.roc_base.specs.declared.id.TxnId.{TxnId}
use Rattle.roc_base.specs.TxnId.{is_txn}
use Rattle.roc_base.specs.Equalities.{is_txn-true, is_txn-same}
use Rattle.roc_program.specs.WellFormed.{IsProgram}
use Rattle.roc_rows.specs.Versions.{Counts}
use Rattle.roc_whole.specs.Run.{whole_run}
use Rattle.roc_whole.specs.Serial.{Call, serial_store}
use Rattle.roc_whole.proofs.Reading.{view_leaves}
use Rattle.roc_plan.specs.Groups.{Plan, procedure_of, is_view_of}
use Rattle.roc_plan.specs.Accepted.{IsAccepted}
use Rattle.roc_law_orders.specs.Runs.{stage_behind}
use Rattle.roc_law_orders.specs.Orders.{one_by_one}
use Rattle.roc_law_log.specs.Scheme.{Scheme}
use Rattle.roc_law_log.specs.Log.{Log}
use Rattle.roc_coord.specs.State.{CoordState}
use Rattle.roc_coord.specs.Submit.{next_id}
use Rattle.roc_audit.specs.declared.entry.Entry.{Entry}
use Rattle.roc_audit.specs.declared.entry.Entry.TheVariants.{Submitted}
use Rattle.roc_audit.specs.History.{WasAnswered}
use Rattle.roc_audit.specs.Witness.{submitted_call, submitted_calls}
use Rattle.roc_audit.specs.Woven.{LeaveTheStore, AreLooks}
use Rattle.roc_audit.proofs.Histories.{call_of-is, call_of-from}
use Rattle.roc_law_protocol.specs.Beginnings as protocol
use Rattle.roc_law_protocol.specs.declared.event.Event.{Event}
use Rattle.roc_law_world.specs.World.{World}
use Rattle.roc_law_world.specs.Happens.{Outcome}
use Rattle.roc_law_world.specs.Run.{Transition}
use Rattle.roc_law_world.specs.Beside.{TellsViews}
use Rattle.roc_law_world.specs.Witness.{shown}
use Rattle.roc_law_world.proofs.Coordinators.{IsCoordSound}
use Rattle.roc_law_world.proofs.ViewMeans.{TellsCalls, is_view_id, proc_of, args_of, ViewsMean}
use Rattle.roc_law_world.proofs.WholeViews.{ViewParts, view_whole}
use Rattle.roc_law_world.proofs.InTime.{AreInTime, IsOrderTold, listed_taken, in_time_next}
use Rattle.roc_law_world.proofs.TimeSteps.{IsKeptInTime, adds_in_time}
use Rattle.roc_law_world.proofs.Shown.{IsReplyBehind, shown_are_looks}

-- what views called leaves the store as it is
pub views_leave : (plan : Plan) (is_view : TxnId → Bool) (history : List Entry) → IsProgram plan.program → TellsViews plan is_view history → LeaveTheStore plan.program is_view history
views_leave plan is_view history formed tells t c viewed e s =
    view_leaves plan.program c.procedure c.arguments s formed (sym (tells t c.procedure c.arguments (call_of-from is_txn-true history t c e)) ∙ viewed)

pub calls_tell_views : (plan : Plan) (calls : TxnId → Call) (history : List Entry) → TellsCalls calls history → TellsViews plan (is_view_id plan calls) history
calls_tell_views plan calls history tells t proc args h = ap (is_view_of plan) (sym (tells t proc args h).0)

-- what was submitted is what was asked
calls_are : (history : List Entry) (asked : TxnId → Call) (order : List TxnId) → ((t : TxnId) → Has t order → submitted_call t history ≡ Some (asked t)) → submitted_calls history order ≡ map asked order
calls_are history asked [] h = refl
calls_are history asked (t ∷ order) h = let one = h t (inl refl) in let rest = calls_are history asked order (λ x k. h x (inr k)) in λ i. cons_option (one i) (rest i)

-- a step keeps real time
pub in_time_step : (plan : Plan) (is_view : TxnId → Bool) (w : World) → AreInTime is_view w → IsOrderTold is_view w → IsKeptInTime is_view w
    → ((n : ℕ) (s : CoordState) → slice_get w.coords n ≡ Some s → IsCoordSound is_view s) → (e : Option Event) (o : Outcome) → Transition plan w e o
    → TellsViews plan is_view o.world.history → AreInTime is_view o.world
in_time_step plan is_view w h told kept sounds e o x tells = in_time_next is_view w o.world h told (adds_in_time plan is_view w kept sounds e o x tells)

module _ (plan : Plan) (calls asked : TxnId → Call) (S : Scheme) (start : protocol.Beginning) (before : ℕ → Counts) (w : World) (log : Log)
    (m : ViewsMean plan calls asked S start before w log) where
  pub kept_in_time : IsKeptInTime (is_view_id plan calls) w
  kept_in_time =
      record {
        views = λ n c at v h. let k = m.views n c at v h in (k.view, k.submitted, k.unanswered);
        next = λ n c at s.
            let g = m.given (next_id c) s in
            let same : c ≡ g.0 = same_there w.coords n c g.0 at (subst (λ k. slice_get w.coords k ≡ Some g.0) (m.numbers n c at) g.1) in
            let low : c.next < g.0.next = g.3 in
            let even = ap (λ (c : CoordState). c.next) same in
            omega (arith, low, even);
        told = m.told;
      }

  module _ (accepted : IsAccepted plan) (laws : ViewParts plan) (tells : TellsCalls calls w.history)
      (stages : (k : ℕ) → (stage_behind S.behaviour start.store (one_by_one S.behaviour (take k w.order))).store ≡ serial_store plan.program start.store (map asked (take k w.order)))
      (called : (t : TxnId) → IsListed is_txn w.order t → submitted_call t w.history ≡ Some (asked t)) where
    -- an answered view's reply is that of its whole run where it looked last
    pub view_replies : (v : TxnId) (reply : List ℤ) → is_view_id plan calls v ≡ true → WasAnswered w.history v reply → IsReplyBehind plan.program start.store w v reply
    view_replies v reply viewed h =
        let a = m.answered v reply viewed h in
        let s = m.told v reply h in
        let t = tells v s.0 s.1 s.2 in
        let front = take a.behind w.order in
        let same : submitted_calls w.history front ≡ map asked front =
        calls_are w.history asked front (λ t k. called t (listed_taken a.behind w.order t (has_listed is_txn is_txn-true is_txn-same front t k))) in
        let store = stages a.behind ∙ ap (serial_store plan.program start.store) (sym same) in
        let call : Call = record { id = v; procedure = (calls v).procedure; arguments = (calls v).arguments } in (
          a.behind,
          a.last_look,
          call,
          call_of-is w.history v (calls v).procedure (calls v).arguments (λ q b k. tells v q b k) (subst (λ x. Has x w.history) (λ i. Submitted v (t.0 i) (t.1 i)) s.2),
          a.is
              ∙ (sym (view_whole plan accepted laws (proc_of plan calls v) viewed (args_of plan calls v) (stage_behind S.behaviour start.store (one_by_one S.behaviour front)).store)
              ∙ ap (λ store. (whole_run (procedure_of plan (proc_of plan calls v)) (args_of plan calls v) store).reply) store),
        )

    pub views_fit : AreInTime (is_view_id plan calls) w → AreLooks plan.program start.store (is_view_id plan calls) w.history w.order (shown w)
    views_fit h = shown_are_looks plan.program start.store (is_view_id plan calls) w h view_replies
