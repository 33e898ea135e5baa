use Rattle.std.proofs.Common.{◌∙◌, sym, ap, arith}
use Rattle.std.proofs.lemmas.Grind.{common_steps}
use Rattle.roc_base.specs.Edges.{unite_one}
use Rattle.roc_base.proofs.Joined.{united-first, united-more}
use Rattle.roc_base.proofs.edges.put_all.Goals as goal

pub loop-edge-init : goal.loop-edge-init
loop-edge-init c = record {
  list = c.requires.list;
  so_far = united-first c.args.edges.now.items c.requires.list.rising;
  room = omega (arith, c.requires.room);
}

pub loop-edge-preserved : goal.loop-edge-preserved
loop-edge-preserved c = record {
  list = c.put.ensures.list;
  so_far =
      c.put.ensures.items
      ∙ (ap (unite_one c.edge-item.result) c.loop-edge.invariant.so_far
      ∙ sym (united-more c.args.edges.now.items c.args.added.now c.loop-edge.edge-index c.edge-item.result c.loop-edge-test.true c.edge-item.is));
  room = omega arith;
}

pub returns-clause-items : goal.returns-clause-items
returns-clause-items c = grind (arith, common_steps)
