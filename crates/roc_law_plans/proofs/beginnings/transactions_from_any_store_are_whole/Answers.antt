use Rattle.roc_program.proofs.Transactions.{transaction_parts}
use Rattle.roc_law_orders.specs.Runs.{first_stage}
use Rattle.roc_law_plans.proofs.OfPlan.{whole_counted}
use Rattle.roc_law_plans.proofs.Whole.{whole_reply, whole_stores}
use Rattle.roc_law_plans.proofs.beginnings.transactions_from_any_store_are_whole.Goals as goal

pub returns-clause-replies : goal.returns-clause-replies
returns-clause-replies c plan start orders asked ok turns calls order once ids t l =
    whole_reply plan orders asked start (λ u s. c.groups_in_turn_are_the_whole_run.ensures plan (asked u).procedure (asked u).arguments s (orders (asked u).procedure) ok (transaction_parts plan.program (asked u).procedure (calls u)).there (turns (asked u).procedure)) turns
    (λ u store. whole_counted plan (asked u).procedure ok (transaction_parts plan.program (asked u).procedure (calls u)).there (asked u).arguments store) order once ids t l

pub returns-clause-stores : goal.returns-clause-stores
returns-clause-stores c plan start orders asked ok turns calls order =
    whole_stores plan orders asked (λ u s. c.groups_in_turn_are_the_whole_run.ensures plan (asked u).procedure (asked u).arguments s (orders (asked u).procedure) ok (transaction_parts plan.program (asked u).procedure (calls u)).there (turns (asked u).procedure)) turns order
    (first_stage start)
