use Rattle.roc_program.proofs.Transactions.{transaction_parts}
use Rattle.roc_law_plans.proofs.OfPlan.{of_plan}
use Rattle.roc_law_plans.proofs.laws.schemes_are_of_their_plan.Goals as goal

pub returns : goal.returns
returns c plan orders asked ok turn calls =
    of_plan plan orders asked ok turn (λ t. (transaction_parts plan.program (asked t).procedure (calls t)).there) (c.groups_have_the_class_of_their_pieces.ensures.some plan ok) (λ proc g input h. (c.inputs_come_from_immediate_groups.ensures plan ok proc g input h).2)
