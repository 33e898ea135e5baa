use Rattle.std.proofs.Common.{◌∙◌, inl, inr, refl, sym, ap, subst, arith}
use Rattle.roc_coord.specs.Fits.{CoordFits}
use Rattle.roc_node_submit.specs.declared.coord_node.CoordNode.{CoordNode}
use Rattle.roc_node_submit.proofs.Coords.{coord_ran_none, coord_ran_more}
use Rattle.roc_node_submit.proofs.Submitted.{submit_half_ends, take_half_ends, submit_over}
use Rattle.roc_node_submit.proofs.Writing.{submit_half_pieces, take_half_pieces, over_pieces}
use Rattle.roc_node_submit.proofs.submitting.submit_turns.Goals as goal

pub loop-init : goal.loop-init
loop-init g c = (
  coord_ran_none _ _ _ _ _ _ c.open_coord_node-coord_node.ensures,
  subst (λ (d : CoordNode). CoordFits c.args.plan.now d.coord) (sym c.open_coord_node-coord_node.ensures) (tt, tt),
  (let n = ap (λ (d : CoordNode). d.next) c.open_coord_node-coord_node.ensures in omega arith),
  refl,
  refl,
  refl,
  refl,
  λ e. refl,
)

pub returns-then-is_answered-clause-submits : goal.returns-then-is_answered-clause-submits
returns-then-is_answered-clause-submits g c log begun begins =
    let below = c.loop-test.true in
    submit_over _ _ _ _ _ log begun _ begins c.close.result _ _ _ _ (omega arith) c.loop.invariant.0 (inl c.if-is_answered.ensures) c.close.ensures.closes

pub returns-in-Err-clause-submits : goal.returns-in-Err-clause-submits
returns-in-Err-clause-submits g c log begun begins =
    submit_half_ends _ _ _ _ _ log begun _ begins c.in-Err.end _ _ c.submit_half.new.coord_node _ _ c.loop-test.true c.loop.invariant.0 c.if-is_answered.ensures c.in-Err.ensures.submits

pub returns-in-Err-take_half-clause-submits : goal.returns-in-Err-take_half-clause-submits
returns-in-Err-take_half-clause-submits g c log begun begins =
    take_half_ends _ _ _ _ _ log begun _ begins c.in-Err-take_half.end _ _ c.submit_half.new.coord_node c.take_half.new.coord_node _ _ _ c.loop-test.true c.loop.invariant.0 c.if-is_answered.ensures
    c.in-Ok.ensures.submits c.in-Err-take_half.ensures.takes

pub loop-preserved : goal.loop-preserved
loop-preserved g c =
    let i = c.loop.invariant in (
      coord_ran_more _ _ _ _ _ _ c.submit_half.new.coord_node c.take_half.new.coord_node _ _ _ _ i.0 c.if-is_answered.ensures c.in-Ok.ensures.submits c.in-Ok-take_half.ensures.takes,
      c.in-Ok-take_half.ensures.fits,
      (let e = c.in-Ok-take_half.ensures.next in let l = c.in-Ok.ensures.next in omega arith),
      c.in-Ok-take_half.ensures.link_cause ∙ c.in-Ok.ensures.link_cause ∙ i.3,
      c.in-Ok-take_half.ensures.sink_cause ∙ c.in-Ok.ensures.sink_cause ∙ i.4,
      c.in-Ok-take_half.ensures.bound ∙ c.in-Ok.ensures.bound ∙ i.5,
      c.in-Ok-take_half.ensures.book_cause ∙ c.in-Ok.ensures.book_cause ∙ i.6,
      λ e. c.in-Ok-take_half.ensures.stays e ∙ c.in-Ok.ensures.stays e ∙ i.7 e,
    )

pub returns-clause-submits : goal.returns-clause-submits
returns-clause-submits g c log begun begins =
    let over = c.loop-test.false in
    let within = c.loop.auto.counter-end in
    submit_over _ _ _ _ _ log begun _ begins c.close-2.result _ _ _ _ (omega arith) c.loop.invariant.0 (inr (omega arith)) c.close-2.ensures.closes

-- ---- the pieces

pub returns-then-is_answered-clause-pieces : goal.returns-then-is_answered-clause-pieces
returns-then-is_answered-clause-pieces g c = over_pieces _ _ _ _ _ c.close.result _ _ _ _ c.loop.invariant.0 c.close.ensures.pieces

pub returns-in-Err-clause-pieces : goal.returns-in-Err-clause-pieces
returns-in-Err-clause-pieces g c = submit_half_pieces _ _ _ _ _ c.in-Err.end _ _ c.submit_half.new.coord_node _ _ c.loop.invariant.0 c.in-Err.ensures.submits

pub returns-in-Err-take_half-clause-pieces : goal.returns-in-Err-take_half-clause-pieces
returns-in-Err-take_half-clause-pieces g c =
    take_half_pieces _ _ _ _ _ c.in-Err-take_half.end _ _ c.submit_half.new.coord_node c.take_half.new.coord_node _ _ _ c.loop.invariant.0 c.if-is_answered.ensures c.in-Ok.ensures.submits
    c.in-Err-take_half.ensures.takes

pub returns-clause-pieces : goal.returns-clause-pieces
returns-clause-pieces g c = over_pieces _ _ _ _ _ c.close-2.result _ _ _ _ c.loop.invariant.0 c.close-2.ensures.pieces
