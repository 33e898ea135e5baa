-- What stands in the serial order for views leaves the cells as they are
use Rattle.std.proofs.Common.{◌≡◌, ◌∙◌, inl, inr, ℕ, ℤ, Bool, true, false, not, List, [], ◌∷◌, Some, refl, sym, ap, subst}
use Rattle.std.proofs.lemmas.Bool.{not-true}
use Rattle.std.specs.Prelude.{slice_get}
use Rattle.std.specs.List.{cons_option}
use Rattle.roc_sequence.specs.Lists.{Has}
use Rattle.roc_sequence.specs.Places.{IsListed}
use Rattle.roc_sequence.proofs.Listed.{has_listed}
use Rattle.roc_sequence.proofs.Members.{has_append, has_filter, from_has_filter}
use Rattle.roc_base.specs.declared.id.TxnId.{TxnId}
use Rattle.roc_base.specs.TxnId.{is_txn}
use Rattle.roc_base.specs.Equalities.{is_txn-true, is_txn-same}
use Rattle.roc_rows.specs.Store.{Store}
use Rattle.roc_program.specs.Program.{Workload}
use Rattle.roc_plan.specs.Groups.{Plan, is_view_of}
use Rattle.roc_plan.specs.Accepted.{IsAccepted}
use Rattle.roc_whole.specs.Serial.{serial_store}
use Rattle.roc_coord.specs.State.{CoordState}
use Rattle.roc_audit.specs.declared.entry.Entry.{Entry}
use Rattle.roc_audit.specs.declared.entry.Entry.TheVariants.{Submitted, Answered}
use Rattle.roc_audit.specs.History.{WasSubmitted, WasAnswered}
use Rattle.roc_audit.specs.Witness.{submitted_call, submitted_calls}
use Rattle.roc_audit.specs.Woven.{Look, woven, entry_id, without_views, LeaveTheStore}
use Rattle.roc_audit.proofs.Histories.{call_of-is}
use Rattle.roc_audit.proofs.ViewRuns.{alike}
use Rattle.roc_audit.proofs.Weave.{kinds}
use Rattle.roc_law_world.specs.World.{World, Beginning}
use Rattle.roc_law_world.specs.Run.{Stepped, IsRunFrom, at_beginning, steps_on}
use Rattle.roc_law_world.specs.Beside.{TellsViews}
use Rattle.roc_law_world.specs.Witness.{was_answered, shown, witness_of}
use Rattle.roc_law_world.proofs.Answering.{answered_submitted, AreTold}
use Rattle.roc_law_world.proofs.AnsweringRuns.{next_is_new, told_in_runs}
use Rattle.roc_law_world.proofs.Coordinators.{IsCoordSound}
use Rattle.roc_law_world.proofs.Numbered.{IsNumbered, numbered}
use Rattle.roc_law_world.proofs.Runs.{beside, grows}
use Rattle.roc_law_world.proofs.Shown.{last_from}
use Rattle.roc_law_world.proofs.Steps.{tells_before}
use Rattle.roc_law_world.proofs.TimeSteps.{IsKeptInTime, adds_in_time}
use Rattle.roc_law_world.proofs.ViewWitness.{views_leave}

-- ---- looks are of views

pub told_in_time : (is_view : TxnId → Bool) (w : World) → AreTold w → IsNumbered w → ((n : ℕ) (s : CoordState) → slice_get w.coords n ≡ Some s → IsCoordSound is_view s) → IsKeptInTime is_view w
told_in_time is_view w told numbers sounds =
    record {
      views = λ n c at v h. let u = told.unanswered n c at v.id (told.views n c at v h) in ((sounds n c at).views v h, u.1, u.2);
      next = λ n c at. next_is_new w numbers n c at;
      told = λ t reply h. answered_submitted w.history told.once t reply h;
    }

pub looks_are_of_views : (plan : Plan) (b : Beginning) (coords : ℕ) (is_view : TxnId → Bool) (steps : List Stepped) (w : World) → IsRunFrom plan b coords steps w → TellsViews plan is_view w.history
    → (l : Look) → Has l w.looks → is_view l.id ≡ true
looks_are_of_views plan b coords is_view steps w at_beginning tells l h = absurd h
looks_are_of_views plan b coords is_view steps w (steps_on {w = v} e o r x) tells l h =
    let g = grows plan v e o x in
    let before = tells_before plan is_view v.history g.more (subst (TellsViews plan is_view) g.is tells) in
    let sounds = (beside plan b coords is_view _ v r before).holds.coords in
    let kept = told_in_time is_view v (told_in_runs plan b coords is_view _ v r before) (numbered plan b coords _ v r) sounds in
    let a = adds_in_time plan is_view v kept sounds e o x tells in
    elim (has_append l v.looks a.more (subst (Has l) a.looks h)) [ inl k ↦ looks_are_of_views plan b coords is_view _ v r before l k | inr k ↦ (a.view l k).0 ]

-- ---- the store behind the woven order

module _ (program : Workload) (is_view : TxnId → Bool) (history : List Entry)
    (one : (t : TxnId) (p q : ℕ) (a b : List ℤ) → Has (Submitted t p a) history → Has (Submitted t q b) history → (p ≡ q) × (a ≡ b)) where
  -- who was submitted among the transactions called there what it called
  same_call : (t : TxnId) → WasSubmitted (without_views is_view history) t → submitted_call t (without_views is_view history) ≡ submitted_call t history
  same_call t (p, a, h) =
      let from : (q : ℕ) (b : List ℤ) → Has (Submitted t q b) (without_views is_view history) → Has (Submitted t q b) history =
      λ q b k. (from_has_filter (λ e. not (is_view (entry_id e))) (Submitted t q b) history k).0 in
      call_of-is (without_views is_view history) t p a (λ q b k. one t q p b a (from q b k) (from p a h)) h
      ∙ sym (call_of-is history t p a (λ q b k. one t q p b a k (from p a h)) (from p a h))

  pub same_calls : (order : List TxnId) → ((t : TxnId) → Has t order → WasSubmitted (without_views is_view history) t)
      → submitted_calls (without_views is_view history) order ≡ submitted_calls history order
  same_calls [] h = refl
  same_calls (t ∷ ts) h = let first = same_call t (h t (inl refl)) in let rest = same_calls ts (λ u k. h u (inr k)) in λ i. cons_option (first i) (rest i)

  pub woven_leaves : (order : List TxnId) (looks : List Look) → LeaveTheStore program is_view history → ((t : TxnId) → Has t order → WasSubmitted (without_views is_view history) t)
      → ((l : Look) → Has l looks → is_view l.id ≡ true) → (s : Store)
      → serial_store program s (submitted_calls history (woven 0 order looks)) ≡ serial_store program s (submitted_calls (without_views is_view history) order)
  woven_leaves order looks leaves submitted views s =
      (alike program is_view history leaves (woven 0 order looks) s).store
      ∙ ap (λ ts. serial_store program s (submitted_calls history ts)) (kinds is_view 0 order looks plain views).0
      ∙ ap (serial_store program s) (sym (same_calls order submitted))
    where
      plain : (t : TxnId) → Has t order → is_view t ≡ false
      plain t h =
          let s = submitted t h in
          not-true (is_view t) (from_has_filter (λ e. not (is_view (entry_id e))) (Submitted t s.0 s.1) history s.2).1

-- what is answered is answered beside
pub answered_beside : (plan : Plan) (is_view : TxnId → Bool) (history : List Entry) → TellsViews plan is_view history
    → ((t : TxnId) (proc : ℕ) (args : List ℤ) → Has (Submitted t proc args) history → is_view_of plan proc ≡ false → (reply : List ℤ) × WasAnswered history t reply)
    → (t : TxnId) → WasSubmitted (without_views is_view history) t → (reply : List ℤ) × WasAnswered (without_views is_view history) t reply
answered_beside plan is_view history tells all t (p, a, h) =
    let f = from_has_filter (λ e. not (is_view (entry_id e))) (Submitted t p a) history h in
    let r = all t p a f.0 (sym (tells t p a f.0) ∙ not-true (is_view t) f.1) in
    (r.0, has_filter (λ e. not (is_view (entry_id e))) (Answered t r.0) history r.1 f.1)

-- what the witness of a run leaves is what the order leaves beside
pub witness_leaves : (plan : Plan) (b : Beginning) (coords : ℕ) (is_view : TxnId → Bool) (steps : List Stepped) (w : World) → IsAccepted plan
    → IsRunFrom plan b coords steps w → TellsViews plan is_view w.history
    → ((t : TxnId) → IsListed is_txn w.order t → WasSubmitted (without_views is_view w.history) t) → (s : Store)
    → serial_store plan.program s (submitted_calls w.history (witness_of w)) ≡ serial_store plan.program s (submitted_calls (without_views is_view w.history) w.order)
witness_leaves plan b coords is_view steps w accepted run tells submitted s =
    woven_leaves plan.program is_view w.history (numbered plan b coords steps w run).one w.order (shown w) (views_leave plan is_view w.history accepted.well_formed tells)
    (λ t h. submitted t (has_listed is_txn is_txn-true is_txn-same w.order t h))
    (λ l h. looks_are_of_views plan b coords is_view steps w run tells l (last_from (was_answered w.history) w.looks l h)) s
