use Rattle.std.proofs.Common.{◌≡◌, ℕ, ◌<◌, true, [], sym, subst, length, inl, inr}
use Rattle.roc_sequence.proofs.Holds.{all_at}
use Rattle.roc_program.specs.LookUps.{no_procedure}
use Rattle.roc_program.specs.WellFormed.{IsProcedure}
use Rattle.roc_program.proofs.Views.{view_there}
use Rattle.roc_base.specs.declared.id.TxnId.{TxnId}
use Rattle.roc_whole.specs.Serial as whole
use Rattle.roc_group.specs.GroupRun.{call}
use Rattle.roc_plan.specs.Groups.{groups_of, is_view_of}
use Rattle.roc_law_log.specs.Scheme.{Scheme, IsSoundScheme}
use Rattle.roc_law_protocol.specs.PlanAssumptions.{HasSchemesFrom}
use Rattle.roc_law_protocol.specs.Inner.Given.{LogLaws, SerialLaws, StoreLaws}
use Rattle.roc_law_log.proofs.Following.{AreFound}
use Rattle.roc_audit.specs.Witness.{IsSerialWitnessFrom}
use Rattle.roc_audit.specs.Woven.{without_views}
use Rattle.roc_law_protocol.proofs.Serial.{call_in}
use Rattle.roc_law_protocol.proofs.Transactions.{transaction_or_none}
use Rattle.roc_law_world.proofs.Readings.{ViewLaws, AreSteady}
use Rattle.roc_law_world.proofs.WholeViews.{ViewParts}
use Rattle.roc_law_world.proofs.WovenOrder.{is_view, tells_them, run_beside, leave, alone, LooksFit, IsCalled, transactions_called, looks_fit}
use Rattle.roc_law_world.proofs.ViewsAlone.{next_call, view_or_none, views_called, nothing_fits}
use Rattle.roc_law_world.proofs.beginnings.looks_fit.Goals as goal

pub returns : goal.returns
returns c plan b coords steps w accepted begins run = (
  is_view plan b coords steps w run,
  tells_them plan b coords steps w run,
  leave plan b coords steps w run accepted,
  base,
  fit.0,
  fit.1,
)
  where
    schemes : HasSchemesFrom plan b.of_transactions.store
    schemes = c.accepted_plans_have_schemes_from_any_store.ensures plan b.of_transactions.store accepted

    laws : (S : Scheme) → IsSoundScheme S → LogLaws S b.of_transactions.store
    laws S sound = c.machine_laws.ensures.log S b.of_transactions.store sound

    serials : (S : Scheme) → IsSoundScheme S → SerialLaws S b.of_transactions.store
    serials S sound = c.machine_laws.ensures.serial S b.of_transactions.store sound

    stores : StoreLaws
    stores = c.machine_laws.ensures.stores

    some_group : (p : ℕ) → is_view_of plan p ≡ true → 0 < length (groups_of plan p)
    some_group p viewed =
        subst (λ n. 0 < n) (sym (c.views_are_apart.ensures.count plan accepted p viewed))
        (all_at (IsProcedure plan.program.tables) plan.program.procedures p no_procedure accepted.well_formed.procedures (view_there plan.program p viewed)).some_piece

    found : (S : Scheme) → AreFound S b.of_transactions.store
    found S = c.runs_stay.ensures.found S.behaviour b.of_transactions.store

    steady : (S : Scheme) → IsSoundScheme S → AreSteady S b.of_transactions.store
    steady S sound log between later i since until = c.steady_cells_are_serial.ensures.order S b.of_transactions.store log between later sound i since until

    parts : ViewParts plan
    parts =
        record {
          whole = λ proc args store order. c.groups_in_turn_are_the_whole_run.ensures plan proc args store order;
          count = c.views_are_apart.ensures.count plan;
          pieces = c.views_are_apart.ensures.pieces plan;
          inputs = c.views_are_apart.ensures.inputs plan;
          store = λ q s. c.views_read_alone.ensures.store plan q s;
        }

    view_laws : ViewLaws plan
    view_laws =
        record {
          exists = view_there plan.program;
          follow = λ p group args s t viewed.
              c.cells_follow_from_what_is_given.ensures plan (call p group args []) s t accepted (view_there plan.program p viewed) (c.views_are_apart.ensures.deferrable plan accepted p viewed group);
          placed = λ p group args s viewed. c.cells_are_at_the_place.ensures plan (call p group args []) s accepted (view_there plan.program p viewed);
          same = c.runs_follow_from_cells.ensures.same plan;
        }

    base : IsSerialWitnessFrom plan.program b.of_transactions.store (without_views (is_view plan b coords steps w run) w.history) w.order
    base = alone plan b coords steps w run begins schemes laws serials stores

    fits : (asked : TxnId → whole.Call) (S : Scheme) → IsCalled plan b coords steps w run asked S → LooksFit plan b coords steps w run
    fits asked S called = looks_fit plan b coords steps w run begins laws stores accepted asked S called (found S) (steady S called.sound) parts view_laws some_group

    fit : LooksFit plan b coords steps w run
    fit = elim (transaction_or_none plan) [
      | inl some ↦ fits (call_in some.0 (run_beside plan b coords steps w run).world) (schemes.scheme (call_in some.0 (run_beside plan b coords steps w run).world)) (transactions_called plan b coords steps w run schemes some)
      | inr none ↦ elim (view_or_none plan b coords steps w run none base) [
        | inl p ↦ (let s = c.views_have_schemes.ensures plan (next_call p.0) accepted (λ t. p.1) in fits (next_call p.0) s.0 (views_called plan b coords steps w run none base p.0 s.0 s.1 s.2))
        | inr untold ↦ nothing_fits plan b coords steps w run none base untold
      ]
    ]
