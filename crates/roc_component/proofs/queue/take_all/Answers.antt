use Rattle.std.proofs.Common.{◌∙◌, ◌++◌, [], ap, sym, subst}
use Rattle.roc_component.specs.Inner.Queue.{IsQueueOf, left_of}
use Rattle.roc_component.specs.Inner.Turns.{AreTurnsTaken, ArePartsOf, none, more}
use Rattle.roc_component.proofs.PartsOf.{parts_none, parts_more}
use Rattle.roc_component.proofs.queue.take_all.Goals as goal

pub take-init : goal.take-init
take-init c = (
  subst (AreTurnsTaken c.args.turns.items) (sym c.new-taken.ensures) none,
  subst (λ k. IsQueueOf c.args.turns.items k [] [] (left_of c.fill.new.left) c.fill.new.self) (sym c.new-taken.ensures) c.in_ok-fill.ensures,
  subst (λ k. ArePartsOf c.args.turns.items k c.new-parts.result.items) (sym c.new-taken.ensures) (subst (ArePartsOf c.args.turns.items []) (sym c.new-parts.ensures.items) (parts_none c.args.turns.items)),
)

pub take-preserved : goal.take-preserved
take-preserved c =
    let turns = c.args.turns.items in
    let i = c.take.invariant in
    let o = c.in-Some.ensures turns c.take.taken c.requires i.1 in
    let e = c.in_ok-extend.ensures ∙ ap (λ l. c.take.taken ++ l) c.as_slice.ensures in (
      more o.0 i.0 o.1 o.3 o.4 (e ∙ ap (λ l. c.take.taken ++ l) o.2),
      c.in_ok-release.ensures turns c.requires
          (subst (λ k. IsQueueOf turns c.extend.new.self k [] (left_of c.next.new.left) c.next.new.self) (sym c.as_slice-in-Some.ensures)
          (subst (λ k. IsQueueOf turns k c.in-Some.ids [] (left_of c.next.new.left) c.next.new.self) (sym e) o.5)),
      parts_more turns c.take.taken c.extend.new.self c.in-Some.ids c.take.parts.items _ o.0 i.2 o.1 o.2 e c.in_ok-push.ensures.items,
    )
