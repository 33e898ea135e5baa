use Rattle.std.proofs.Common.{◌∙◌}
use Rattle.roc_law_protocol.specs.Beginnings as protocol
use Rattle.roc_law_protocol.specs.Kept.{ran_in}
use Rattle.roc_law_world.specs.World.{first_beginning}
use Rattle.roc_law_audit.specs.InTheWorld.{all_ran}
use Rattle.roc_law_audit.proofs.Explained.{judged_yes}
use Rattle.roc_law_audit.proofs.Beside.{no_view, tells_none, all_stay, ran_alike, same_run}
use Rattle.roc_law_audit.proofs.laws.honest_folds_are_yes.Goals as goal

pub returns : goal.returns
returns c plan coords steps w accepted run none folds are =
    let x = c.runs_are_beside.ensures plan (first_beginning plan) coords no_view steps w run (tells_none plan w.history none) in
    let others = x.0 in
    let t = x.1 in
    let b = protocol.first_beginning plan in
    let begins = c.first_worlds_begin.ensures plan in
    let schemes = c.accepted_plans_have_schemes_from_any_store.ensures plan b.store accepted in
    let witness = c.order_is_serial.ensures plan b coords others t begins schemes x.2 in
    let same = same_run plan folds (all_ran steps) (ran_in others) w.servers t.servers w.history t.history w.order t.order (ran_alike steps others x.4) x.3.servers
    (x.3.history ∙ all_stay w.history) x.3.order are in
    judged_yes plan others t folds same (c.order_keeps_what_ran.ensures plan b coords others t begins schemes x.2) witness.real_time
    (c.ids_are_told_once.ensures plan b coords others t begins schemes x.2)
    witness.submitted witness.answered (c.kept_orders_are_serial.ensures.replies plan b coords others t begins schemes x.2)
