use Rattle.std.proofs.Common.{◌≡◌, ◌<◌, IsTrue, length, rules, arith}
use Rattle.std.proofs.lemmas.Bool.{false≢true}
use Rattle.roc_epoch.proofs.Fronts.{front_at, front_seen}
use Rattle.roc_epoch.proofs.growth.is_front.Goals as goal

pub returns-then-not-is_as : goal.returns-then-not-is_as
returns-then-not-is_as g c =
    let at = c.loop-at.at in
    let in_front : at < length c.args.front.now = omega (arith, c.loop-at-test.true) in
    let in_whole : at < length c.args.whole.now = omega (arith, c.loop-at-test.true, c.loop-at.invariant.lengths) in (
      λ h. absurd (false≢true h),
      λ front.
          let listed =
          front_at g.T.Part.text c.args.front.now c.args.whole.now at c.index-front-at.result c.index-whole-at.result front in_front in_whole c.index-front-at.is c.index-whole-at.is in
          let said : IsTrue c.is_as.result = c.is_as.ensures.1 listed in
          search rules,
    )

pub returns : goal.returns
returns g c =
    let at = c.loop-at.at in
    let whole : at ≡ length c.args.front.now = search rules in
    (λ h. front_seen g.T.Part.text c.args.front.now c.args.whole.now at whole c.loop-at.invariant.so_far, λ front. search rules)
