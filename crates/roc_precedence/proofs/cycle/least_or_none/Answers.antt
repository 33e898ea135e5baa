use Rattle.std.proofs.Common.{take, sym, subst}
use Rattle.std.proofs.lemmas.List.{take_more}
use Rattle.roc_base.specs.declared.id.TxnId.{TxnId}
use Rattle.roc_depgraph.specs.Deps.{Precedes}
use Rattle.roc_precedence.specs.Inner.Rounds.{IsLeastOrNone}
use Rattle.roc_precedence.proofs.cycle.least_or_none.Goals as goal

pub loop-other-preserved : goal.loop-other-preserved
loop-other-preserved c =
    let none : TxnId = record { coord = 0; seq = 0 } in
    subst (λ l. IsLeastOrNone (Precedes c.args.lists.now) c.args.id l c.lesser-least.result) (sym (take_more c.args.level.now c.loop-other.other-index none c.loop-other-test.true))
    (c.lesser-least.ensures (take c.loop-other.other-index c.args.level.now) c.loop-other.invariant)
