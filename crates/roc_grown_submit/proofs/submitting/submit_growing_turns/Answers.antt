use Rattle.std.proofs.Common.{◌∙◌, refl, sym, ap, subst, arith}
use Rattle.std.specs.Prelude.{Some}
use Rattle.roc_base.specs.declared.node.Node.TheVariants as node
use Rattle.roc_grown.specs.Fits.{GrownCoordFits}
use Rattle.roc_grown_node.specs.Setting.{grown_node_setting}
use Rattle.roc_grown_submit.specs.declared.coord_node.CoordNode.{CoordNode}
use Rattle.roc_grown_submit.proofs.Ending.{submit_half_ends, take_half_ends, answered_ends, turns_end}
use Rattle.roc_grown_submit.proofs.Turning.{grown_ran_none, grown_ran_more}
use Rattle.roc_grown_submit.proofs.Writing.{submit_half_pieces, take_half_pieces, answered_pieces, turns_pieces}
use Rattle.roc_grown_submit.proofs.submitting.submit_growing_turns.Goals as goal

pub loop-init : goal.loop-init
loop-init g c = (
  grown_ran_none _ _ _ _ _ _ c.open_coord_node-coord_node.ensures,
  subst (λ (d : CoordNode). GrownCoordFits c.args.plan.now (Some c.args.next.now) d.coord) (sym c.open_coord_node-coord_node.ensures) (tt, tt),
  (let n = ap (λ (d : CoordNode). d.first) c.open_coord_node-coord_node.ensures in omega arith),
  (let n = ap (λ (d : CoordNode). d.second) c.open_coord_node-coord_node.ensures in omega arith),
  refl,
  refl,
  refl,
)

pub returns-in-Err-clause-submits : goal.returns-in-Err-clause-submits
returns-in-Err-clause-submits g c = submit_half_ends _ _ _ _ _ _ c.in-Err.end _ _ c.submit_half.new.coord_node _ _ c.loop-test.true c.loop.invariant.0 c.in-Err.ensures.submits

pub returns-then-are_all_answered-clause-submits : goal.returns-then-are_all_answered-clause-submits
returns-then-are_all_answered-clause-submits g c =
    answered_ends (grown_node_setting c.args.plan.now c.args.tag c.args.next.now (node.Coord c.args.coord) c.args.cluster.now) _ _ _ _ _ (c.grown_programs_call_alike.ensures.names c.args.plan.now.program c.args.next.now.plan.program c.requires.grown) c.close.result _ _ c.submit_half.new.coord_node _ _ _ c.loop-test.true c.loop.invariant.0 c.in-Ok.ensures.submits
    c.if-are_all_answered.ensures c.close.ensures.closes

pub returns-in-Err-take_half-clause-submits : goal.returns-in-Err-take_half-clause-submits
returns-in-Err-take_half-clause-submits g c =
    take_half_ends _ _ _ _ _ _ c.in-Err-take_half.end _ _ c.submit_half.new.coord_node c.take_half.new.coord_node _ _ _ c.loop-test.true c.loop.invariant.0 c.in-Ok.ensures.submits c.if-are_all_answered.ensures
    c.in-Err-take_half.ensures.takes

pub loop-preserved : goal.loop-preserved
loop-preserved g c =
    let i = c.loop.invariant in (
      grown_ran_more _ _ _ _ _ _ c.submit_half.new.coord_node c.take_half.new.coord_node _ _ _ _ i.0 c.in-Ok.ensures.submits c.if-are_all_answered.ensures c.in-Ok-take_half.ensures.takes,
      c.in-Ok-take_half.ensures.fits,
      (let e = c.in-Ok-take_half.ensures.first in let l = c.in-Ok.ensures.first in omega arith),
      (let e = c.in-Ok-take_half.ensures.second in let l = c.in-Ok.ensures.second in omega arith),
      c.in-Ok-take_half.ensures.link_cause ∙ c.in-Ok.ensures.link_cause ∙ i.4,
      c.in-Ok-take_half.ensures.sink_cause ∙ c.in-Ok.ensures.sink_cause ∙ i.5,
      c.in-Ok-take_half.ensures.bound ∙ c.in-Ok.ensures.bound ∙ i.6,
    )

pub returns-clause-submits : goal.returns-clause-submits
returns-clause-submits g c =
    let over = c.loop-test.false in
    let within = c.loop.auto.counter-end in
    turns_end (grown_node_setting c.args.plan.now c.args.tag c.args.next.now (node.Coord c.args.coord) c.args.cluster.now) _ _ _ _ _ (c.grown_programs_call_alike.ensures.names c.args.plan.now.program c.args.next.now.plan.program c.requires.grown) c.close-2.result _ _ _ _ (omega arith) c.loop.invariant.0 c.close-2.ensures.closes

-- ---- the pieces

pub returns-in-Err-clause-pieces : goal.returns-in-Err-clause-pieces
returns-in-Err-clause-pieces g c = submit_half_pieces _ _ _ _ _ c.in-Err.end _ _ c.submit_half.new.coord_node _ _ c.loop.invariant.0 c.in-Err.ensures.submits

pub returns-then-are_all_answered-clause-pieces : goal.returns-then-are_all_answered-clause-pieces
returns-then-are_all_answered-clause-pieces g c =
    answered_pieces _ _ _ _ _ c.close.result _ _ c.submit_half.new.coord_node _ _ _ c.loop.invariant.0 c.in-Ok.ensures.submits c.close.ensures.pieces

pub returns-in-Err-take_half-clause-pieces : goal.returns-in-Err-take_half-clause-pieces
returns-in-Err-take_half-clause-pieces g c =
    take_half_pieces _ _ _ _ _ c.in-Err-take_half.end _ _ c.submit_half.new.coord_node c.take_half.new.coord_node _ _ _ c.loop.invariant.0 c.in-Ok.ensures.submits c.in-Err-take_half.ensures.takes

pub returns-clause-pieces : goal.returns-clause-pieces
returns-clause-pieces g c = turns_pieces _ _ _ _ _ c.close-2.result _ _ _ _ c.loop.invariant.0 c.close-2.ensures.pieces
