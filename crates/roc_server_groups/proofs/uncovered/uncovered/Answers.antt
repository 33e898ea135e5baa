use Rattle.std.proofs.Common.{◌≡◌, ℕ, ◌+◌, ◌-◌, ◌<◌, ◌∷◌, length, drop, sym, subst, ◌∙◌, arith}
use Rattle.std.proofs.lemmas.List.{drop_more}
use Rattle.roc_server_groups.specs.Inner.Covered.{with_use, AreSameUses}
use Rattle.roc_server_groups.proofs.Covered.{one_used}
use Rattle.roc_server_groups.proofs.uncovered.uncovered.Goals as goal

pub loop-at-preserved : goal.loop-at-preserved
loop-at-preserved c =
    let cells = c.args.cells.now in
    let at : ℕ = c.loop-at.at - 1 in
    let a = c.index-cells-at.result in
    let uses = c.loop-at.uses.items in
    let some = c.loop-at-test.true in
    let most = c.loop-at.auto.at in
    let within : at < length cells = omega arith in
    let next : at + 1 ≡ c.loop-at.at = omega arith in
    let rest : drop at cells ≡ a ∷ drop c.loop-at.at cells
    = drop_more cells at a within ∙ (λ i. sym c.index-cells-at.is i ∷ drop (next i) cells) in
    let more = one_used (drop c.loop-at.at cells) uses a c.loop-at.invariant in
    subst (λ us. AreSameUses (drop at cells) us) (sym c.in_ok-put_use.ensures) (subst (λ xs. AreSameUses xs (with_use a uses)) (sym rest) more)
