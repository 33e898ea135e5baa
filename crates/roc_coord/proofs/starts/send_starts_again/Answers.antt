use Rattle.std.proofs.Common.{ℕ, ◌<◌, List, length, subst, sym, ◌∙◌, All}
use Rattle.roc_plan.specs.Groups.{groups_of}
use Rattle.roc_coord.specs.Tick.{awaits_startok}
use Rattle.roc_readonly.proofs.Ranges.{All-filter_range}
use Rattle.roc_coord.proofs.starts.send_starts_again.Goals as goal

pub resend_each-requires-clause-groups : goal.resend_each-requires-clause-groups
resend_each-requires-clause-groups c =
    let count : ℕ = length (groups_of c.args.plan.now c.args.x.now.proc) in
    let are_below : List ℕ → Type 0 = λ groups. All (λ g. g < count) groups in
    subst are_below (sym (c.as_slice.ensures.value ∙ c.in_ok-groups.ensures)) (All-filter_range (awaits_startok c.args.x.now) count)
