use Rattle.std.proofs.Common.{ℕ, List}
use Rattle.roc_plan.specs.Turns.{AreInTurn}
use Rattle.roc_law_plans.specs.Scheme.{scheme_of, AreOrders}
use Rattle.roc_law_plans.proofs.beginnings.accepted_plans_have_schemes_from_any_store.Goals as goal

pub returns : goal.returns
returns c plan start ok =
    let turn : (proc : ℕ) → (order : List ℕ) × AreInTurn plan proc order = λ proc. c.groups_can_run_in_turn.ensures plan ok proc in
    let orders : ℕ → List ℕ = λ proc. (turn proc).0 in
    let turned : AreOrders plan orders = λ proc. (turn proc).1 in
    record {
      scheme = scheme_of plan orders;
      of = λ asked calls. c.schemes_are_of_their_plan.ensures plan orders asked ok turned calls;
      sound = λ asked calls. c.schemes_are_sound.ensures plan orders asked ok turned calls;
      replies = λ asked calls. c.transactions_from_any_store_are_whole.ensures.replies plan start orders asked ok turned calls;
      stores = λ asked calls. c.transactions_from_any_store_are_whole.ensures.stores plan start orders asked ok turned calls;
    }
