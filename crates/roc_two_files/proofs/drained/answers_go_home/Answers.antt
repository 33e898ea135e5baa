use Rattle.std.proofs.Common.{◌≡◌, ◌∙◌, ℕ, zero, suc, ◌<◌, Bool, true, false, not, ◌&&◌, nat_lt, [], sym, subst, refl, length, inl, inr, arith}
use Rattle.roc_sequence.proofs.Holds.{all_at}
use Rattle.roc_program.specs.LookUps.{no_procedure}
use Rattle.roc_program.specs.WellFormed.{IsProcedure}
use Rattle.roc_program.proofs.Views.{view_there}
use Rattle.roc_sequence.specs.Places.{IsListed}
use Rattle.roc_base.specs.declared.id.TxnId.{TxnId}
use Rattle.roc_base.specs.TxnId.{is_txn}
use Rattle.roc_whole.specs.Serial as whole
use Rattle.roc_group.specs.GroupRun.{call}
use Rattle.roc_plan.specs.Groups.{groups_of, is_view_of}
use Rattle.roc_law_log.specs.Scheme.{Scheme, IsSoundScheme}
use Rattle.roc_law_protocol.specs.PlanAssumptions.{HasSchemesFrom}
use Rattle.roc_law_log.proofs.Following.{AreFound}
use Rattle.roc_audit.specs.Witness.{IsSerialWitnessFrom}
use Rattle.roc_audit.specs.Woven.{without_views}
use Rattle.roc_law_protocol.proofs.Logged.{ordered_submitted}
use Rattle.roc_law_protocol.proofs.Serial.{call_in}
use Rattle.roc_law_protocol.proofs.Transactions.{transaction_or_none}
use Rattle.roc_law_world.proofs.Readings.{ViewLaws, AreSteady}
use Rattle.roc_law_world.proofs.ViewLogs.{logged_beside}
use Rattle.roc_law_world.proofs.WovenOrder.{is_view, called_in, tells, tells_them, run_beside, alone, IsCalled, transactions_called}
use Rattle.roc_law_world.proofs.ViewsAlone.{next_call, views_called}
use Rattle.roc_two_files.specs.Home.{GoesHome}
use Rattle.roc_two_files.proofs.Bare.{bare_home}
use Rattle.roc_two_files.proofs.Home.{goes_home}
use Rattle.roc_two_files.proofs.drained.answers_go_home.Goals as goal

pub returns : goal.returns
returns c plan b coords steps w accepted begins run m sent = counted (length plan.program.procedures) refl
  where
    -- the first procedure is a view where none may write
    viewed : 0 < length plan.program.procedures → ((proc : ℕ) → (nat_lt proc (length plan.program.procedures) && not (is_view_of plan proc)) ≡ false) → is_view_of plan 0 ≡ true
    viewed some none = go (is_view_of plan 0) refl
      where
        first : nat_lt 0 (length plan.program.procedures) ≡ true
        first = grind arith

        go : (v : Bool) → is_view_of plan 0 ≡ v → v ≡ true
        go true e = refl
        go false e = sym (none 0) ∙ ((λ i. first i && not (e i)))

    schemes : HasSchemesFrom plan b.of_transactions.store
    schemes = c.accepted_plans_have_schemes_from_any_store.ensures plan b.of_transactions.store accepted

    some_group : (p : ℕ) → is_view_of plan p ≡ true → 0 < length (groups_of plan p)
    some_group p viewed =
        subst (λ n. 0 < n) (sym (c.views_are_apart.ensures.count plan accepted p viewed))
        (all_at (IsProcedure plan.program.tables) plan.program.procedures p no_procedure accepted.well_formed.procedures (view_there plan.program p viewed)).some_piece

    found : (S : Scheme) → AreFound S b.of_transactions.store
    found S = c.runs_stay.ensures.found S.behaviour b.of_transactions.store

    steady : (S : Scheme) → IsSoundScheme S → AreSteady S b.of_transactions.store
    steady S sound log between later i since until = c.steady_cells_are_serial.ensures.order S b.of_transactions.store log between later sound i since until

    view_laws : ViewLaws plan
    view_laws =
        record {
          exists = view_there plan.program;
          follow = λ p group args s t viewed.
              c.cells_follow_from_what_is_given.ensures plan (call p group args []) s t accepted (view_there plan.program p viewed)
              (c.views_are_apart.ensures.deferrable plan accepted p viewed group);
          placed = λ p group args s viewed. c.cells_are_at_the_place.ensures plan (call p group args []) s accepted (view_there plan.program p viewed);
          same = c.runs_follow_from_cells.ensures.same plan;
        }

    base : IsSerialWitnessFrom plan.program b.of_transactions.store (without_views (is_view plan b coords steps w run) w.history) w.order
    base =
        alone plan b coords steps w run begins schemes (λ S sound. c.machine_laws.ensures.log S b.of_transactions.store sound)
        (λ S sound. c.machine_laws.ensures.serial S b.of_transactions.store sound) c.machine_laws.ensures.stores

    home : (asked : TxnId → whole.Call) (S : Scheme) → IsCalled plan b coords steps w run asked S → GoesHome w.history m.msg m.to
    home asked S called =
        let laws = c.machine_laws.ensures.log S b.of_transactions.store called.sound in
        let beside = (run_beside plan b coords steps w run).world in
        let l =
        logged_beside plan (called_in w.history) asked S b called.is laws c.machine_laws.ensures.stores begins.of_transactions called.sound (found S) view_laws
        (steady S called.sound) some_group begins.versions coords steps w run (tells_them plan b coords steps w run) (tells plan b coords steps w run) called.agrees
        in
        let ordered = ordered_submitted plan asked S b.of_transactions called.is laws beside l.log l.logged in
        let i = laws.holds l.log l.logged.means.reached in
        goes_home plan b coords steps w run asked S l.log l.logged.means.messages l.logged.began
        (λ n t h. ordered t (subst (λ o. IsListed is_txn o t) (sym l.logged.means.order) (i.in_order n t h))) l.views.are_for.messages m sent

    counted : (n : ℕ) → length plan.program.procedures ≡ n → GoesHome w.history m.msg m.to
    counted zero e = bare_home plan e b coords steps w run m sent
    counted (suc n) e = elim (transaction_or_none plan) [
      | inl there ↦
          (let asked = call_in there.0 (run_beside plan b coords steps w run).world in
          home asked (schemes.scheme asked) (transactions_called plan b coords steps w run schemes there))
      | inr none ↦
          (let some : 0 < length plan.program.procedures = omega arith in
          let s = c.views_have_schemes.ensures plan (next_call 0) accepted (λ t. viewed some none) in
          home (next_call 0) s.0 (views_called plan b coords steps w run none base 0 s.0 s.1 s.2))
    ]
