use Rattle.std.proofs.Common.{◌≡◌, ◌∙◌, not, Some, sym, ap, subst}
use Rattle.std.specs.Prelude.{slice_get}
use Rattle.roc_sequence.specs.Lists.{Has}
use Rattle.roc_sequence.proofs.Members.{has_filter, from_has_filter}
use Rattle.roc_audit.specs.declared.entry.Entry.TheVariants.{Submitted, Answered}
use Rattle.roc_audit.specs.Woven.{entry_id}
use Rattle.roc_law_world.proofs.QuietBeside.{quiet_beside}
use Rattle.roc_law_world.proofs.WovenOrder.{is_view, tells_them, run_beside}
use Rattle.roc_law_world.proofs.beginnings.quiet_transactions_are_answered.Goals as goal

pub returns-clause-answered : goal.returns-clause-answered
returns-clause-answered c plan b coords steps w accepted begins run t proc args submitted plain quiet =
    let v = is_view plan b coords steps w run in
    let x = run_beside plan b coords steps w run in
    let there = has_filter (λ e. not (v (entry_id e))) (Submitted t proc args) w.history submitted (ap not (tells_them plan b coords steps w run t proc args submitted ∙ plain)) in
    let r = c.quiet_is_answered.ensures.answered plan b.of_transactions coords x.others x.world begins.of_transactions
    (c.accepted_plans_have_schemes_from_any_store.ensures plan b.of_transactions.store accepted) x.run
    t proc args (subst (Has (Submitted t proc args)) (sym x.holds.beside.history) there) (quiet_beside v w x.world x.holds.beside plan steps x.others x.counted t quiet) in
    (r.0, (from_has_filter (λ e. not (v (entry_id e))) (Answered t r.0) w.history (subst (Has (Answered t r.0)) x.holds.beside.history r.1)).0)

pub returns-clause-decided : goal.returns-clause-decided
returns-clause-decided c plan b coords steps w accepted begins run t quiet shard s there =
    let v = is_view plan b coords steps w run in
    let x = run_beside plan b coords steps w run in
    c.quiet_is_answered.ensures.decided plan b.of_transactions coords x.others x.world begins.of_transactions
    (c.accepted_plans_have_schemes_from_any_store.ensures plan b.of_transactions.store accepted) x.run
    t (quiet_beside v w x.world x.holds.beside plan steps x.others x.counted t quiet) shard s (subst (λ l. slice_get l shard.0 ≡ Some s) (sym x.holds.beside.servers) there)
