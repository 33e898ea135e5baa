use Rattle.std.proofs.Common.{◌++◌, ◌∙◌, List, ap, sym, subst}
use Rattle.roc_base.specs.declared.id.TxnId.{TxnId}
use Rattle.roc_component.specs.Inner.Turns.{AreTurns, IsInside}
use Rattle.roc_component.proofs.OneMember.{few_inside}
use Rattle.roc_component.proofs.TurnsOf.{member_turns}
use Rattle.roc_component.proofs.turn.inside.Goals as goal

pub returns-then-ids-lt2 : goal.returns-then-ids-lt2
returns-then-ids-lt2 c =
    subst (λ (order : List TxnId). IsInside c.args.lists.now c.args.ids.now order) (sym (c.in_ok-extend_from_slice.ensures.items ∙ ap (λ (order : List TxnId). order ++ c.args.ids.now) c.new-order.ensures.items))
    (few_inside c.args.lists.now c.args.ids.now c.if-ids-lt2.true)

pub take_all-requires : goal.take_all-requires
take_all-requires c = subst AreTurns (sym c.in_ok-turns.ensures) (member_turns c.args.lists.now c.args.ids.now)
