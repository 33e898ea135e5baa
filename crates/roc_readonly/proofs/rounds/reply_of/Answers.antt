use Rattle.std.proofs.Common.{◌≡◌, ℕ, ℤ, List, ◌++◌, [], ap, sym, ◌∙◌, append-nil, rules}
use Rattle.roc_readonly.specs.Round.{find_read, outs_in}
use Rattle.roc_readonly.proofs.Replies.{flat_map-range_more}
use Rattle.roc_readonly.proofs.rounds.reply_of.Goals as goal
use Rattle.roc_readonly.proofs.rounds.reply_of.Goals.{in-Some+in_ok-extend_from_slice, in_default}

pub loop-group-preserved : goal.loop-group-preserved
loop-group-preserved c =
    let group = c.loop-group.group in
    let outs : ℕ → List ℤ = λ g. outs_in (find_read g c.as_slice-got.result.now) in
    let add : List ℤ → List ℤ = λ ys. ys ++ outs group in
    let more = ap add c.loop-group.invariant ∙ sym (flat_map-range_more outs group) in
    elim c.match-find_read.branch [
      | in-Some+in_ok-extend_from_slice w ↦ (let own : w.as_slice.result.now ≡ outs group = search rules in w.reply-is ∙ w.in_ok-extend_from_slice.ensures.ok ∙ ap (λ ys. c.loop-group.reply ++ ys) own ∙ more)
      | in_default w ↦ (let none : outs group ≡ [] = search rules in w.reply-is ∙ sym (ap (λ ys. c.loop-group.reply ++ ys) none ∙ append-nil c.loop-group.reply) ∙ more)
    ]
