use Rattle.std.proofs.Common.{ℕ, ◌<◌, List, length, subst, sym, ◌∙◌, All}
use Rattle.roc_plan.specs.Groups.{groups_of}
use Rattle.roc_coord.specs.Starts.{can_start}
use Rattle.roc_readonly.proofs.Ranges.{All-filter_range}
use Rattle.roc_coord.proofs.starts.send_starts.Goals as goal

pub send_each-requires-clause-groups : goal.send_each-requires-clause-groups
send_each-requires-clause-groups c =
    let count : ℕ = length (groups_of c.args.plan.now c.args.x.now.proc) in
    let are_below : List ℕ → Type 0 = λ groups. All (λ g. g < count) groups in
    subst are_below (sym (c.as_slice.ensures.value ∙ c.in_ok-ready.ensures)) (All-filter_range (can_start c.args.plan.now c.args.x.now) count)
