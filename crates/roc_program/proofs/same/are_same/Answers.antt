use Rattle.std.proofs.Common.{◌∙◌, ◌≡◌, ◌<◌, IsTrue, length, rules, sym, ap, get_or, arith}
use Rattle.std.proofs.lemmas.Bool.{false≢true}
use Rattle.std.proofs.lemmas.List.{get_or-map}
use Rattle.roc_program.proofs.same.are_same.Goals as goal

pub returns-then-not-is_as : goal.returns-then-not-is_as
returns-then-not-is_as g c =
    let text = g.T.Compared.text in
    let at = c.loop-at.at in
    let x = c.index-some-at.result in
    let y = c.index-others-at.result in
    let in_some : at < length c.args.some.now = omega (arith, c.loop-at-test.true) in
    let in_others : at < length c.args.others.now = omega (arith, c.loop-at-test.true, c.loop-at.invariant.lengths) in (
      λ h. absurd (false≢true h),
      λ same.
          let listed : text x ≡ text y =
          ap text c.index-some-at.is
          ∙ (sym (get_or-map text c.args.some.now at x (text x) in_some)
          ∙ (ap (λ texts. get_or texts at (text x)) same
          ∙ (get_or-map text c.args.others.now at y (text x) in_others ∙ ap text (sym c.index-others-at.is)))) in
          let said : IsTrue c.is_as.result = c.is_as.ensures.1 listed in
          search rules,
    )
