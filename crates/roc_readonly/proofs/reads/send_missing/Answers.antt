use Rattle.std.proofs.Common.{ℕ, ◌<◌, List, length, subst, sym, ◌∙◌, All, is_none}
use Rattle.roc_plan.specs.Groups.{groups_of}
use Rattle.roc_readonly.specs.Round.{find_read}
use Rattle.roc_readonly.proofs.Ranges.{All-filter_range}
use Rattle.roc_readonly.proofs.reads.send_missing.Goals as goal

pub send_each-requires-clause-groups : goal.send_each-requires-clause-groups
send_each-requires-clause-groups c =
    let count : ℕ = length (groups_of c.args.plan.now c.args.v.now.proc) in
    let are_below : List ℕ → Type 0 = λ groups. All (λ g. g < count) groups in
    subst are_below (sym (c.as_slice.ensures.value ∙ c.in_ok-groups.ensures)) (All-filter_range (λ g. is_none (find_read g c.args.got.now)) count)
