use Rattle.std.proofs.Common.{◌++◌, ap, ◌∙◌}
use Rattle.std.proofs.lemmas.Result.{IfOk-weaker}
use Rattle.std.specs.List.{flat_map}
use Rattle.roc_precedence.specs.Inner.Lists.{members_of_several}
use Rattle.roc_precedence.proofs.OnCycles.{around_for}
use Rattle.roc_precedence.proofs.circles.around.Goals as goal

pub returns : goal.returns
returns c =
    let some = c.in_ok-found.ensures ∙ ap (flat_map members_of_several) c.deref.ensures.value in
    let own = c.in_ok-own.ensures in
    IfOk-weaker c.rising.result _ _ (λ found h.
    around_for c.args.lists.now c.args.set.now c.in_ok-components.components.items c.in_ok-components.ensures.components c.deref-2.result.now found.items
    (c.deref-2.ensures.value ∙ (c.in_ok-append.ensures.items ∙ (λ i. some i ++ own i))) h) c.rising.ensures
