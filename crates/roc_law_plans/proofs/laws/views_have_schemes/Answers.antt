use Rattle.std.proofs.Common.{ℕ, ◌<◌, List, length}
use Rattle.roc_base.specs.declared.id.TxnId.{TxnId}
use Rattle.roc_program.proofs.Views.{view_there}
use Rattle.roc_law_plans.specs.Scheme.{scheme_of, AreOrders}
use Rattle.roc_law_plans.proofs.OfPlan.{of_plan}
use Rattle.roc_law_plans.proofs.Sound.{views_sound}
use Rattle.roc_law_plans.proofs.laws.views_have_schemes.Goals as goal

pub returns : goal.returns
returns c plan asked ok views =
    let orders : ℕ → List ℕ = λ p. (c.groups_can_run_in_turn.ensures plan ok p).0 in
    let turns : AreOrders plan orders = λ p. (c.groups_can_run_in_turn.ensures plan ok p).1 in
    let there : (t : TxnId) → (asked t).procedure < length plan.program.procedures = λ t. view_there plan.program (asked t).procedure (views t) in (
      scheme_of plan orders asked,
      of_plan plan orders asked ok turns there (c.groups_have_the_class_of_their_pieces.ensures.some plan ok) (λ proc g input h. (c.inputs_come_from_immediate_groups.ensures plan ok proc g input h).2),
      views_sound
          (record {
            same = c.runs_follow_from_cells.ensures.same;
            others = c.runs_follow_from_cells.ensures.others;
            static = c.conflicts_are_static.ensures;
            at_place = c.cells_are_at_the_place.ensures;
            follow = c.cells_follow_from_what_is_given.ensures;
            one_class = c.groups_meet_their_own_class.ensures.one_class;
            one_contended = c.groups_meet_their_own_class.ensures.one_contended;
          })
          plan orders asked (λ q s view. c.views_read_alone.ensures.uses plan q s ok view) ok turns there views,
    )
