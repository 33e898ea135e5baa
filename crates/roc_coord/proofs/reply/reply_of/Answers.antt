use Rattle.std.proofs.Common.{ℕ, ◌<◌, List, length, subst, sym, ◌∙◌, All}
use Rattle.roc_plan.specs.Groups.{groups_of}
use Rattle.roc_readonly.proofs.Ranges.{All-range}
use Rattle.roc_coord.proofs.reply.reply_of.Goals as goal

pub places_of-requires : goal.places_of-requires
places_of-requires c =
    let count : ℕ = length (groups_of c.args.plan.now c.args.x.now.proc) in
    let are_below : List ℕ → Type 0 = λ groups. All (λ g. g < count) groups in
    subst are_below (sym (c.deref.ensures.value ∙ c.in_ok-groups.ensures)) (All-range count)
