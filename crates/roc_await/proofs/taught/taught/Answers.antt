use Rattle.std.proofs.Common.{◌≡◌, length, sym, ap, arith}
use Rattle.roc_await.specs.Inner.Groups.{all_lacks}
use Rattle.roc_await.proofs.Taking.{first_taken, last_taken, taken_others}
use Rattle.roc_await.proofs.taught.taught.Goals as goal

pub loop-id-init : goal.loop-id-init
loop-id-init c = λ were.
    taken_others were.before c.args.deps.now c.args.ids.now (all_lacks c.args.groups.now) (all_lacks c.in_ok-taught.taught.items) (ap all_lacks (sym c.in_ok-taught.ensures))
    (first_taken c.args.deps.now c.args.ids.now (all_lacks c.args.groups.now) were)

pub returns : goal.returns
returns c = λ were.
    let none : length c.loop-id.left.now ≡ 0 = omega (arith, c.in_default.ensures.cases) in
    last_taken were.before c.args.deps.now c.loop-id.left.now (all_lacks c.loop-id.taught.items) none (c.loop-id.invariant were)
