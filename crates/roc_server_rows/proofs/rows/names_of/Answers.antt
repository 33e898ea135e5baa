use Rattle.std.proofs.Common.{◌∙◌, refl, arith}
use Rattle.roc_server_rows.proofs.Named.{naming_more, naming_none}
use Rattle.roc_server_rows.proofs.rows.names_of.Goals as goal

pub loop-edge-init : goal.loop-edge-init
loop-edge-init c = record {
  naming = naming_none c.args.parts.now c.args.done.now c.reserve.new.self.items c.requires.whole (c.in_ok-reserve.ensures.items ∙ c.new-names.ensures.items);
  undecided = refl;
  no_fewer = omega arith;
  at_most = omega arith;
}

pub loop-edge-preserved : goal.loop-edge-preserved
loop-edge-preserved c =
    let i = c.loop-edge.invariant in
    let link = c.in_ok-link.ensures in
    record {
      naming =
          naming_more _ c.loop-edge.parts c.link_of.new.parts c.args.done.now c.args.edges.now c.loop-edge.edge-index c.edge-item.result c.from.result
          c.loop-edge.names.items c.push.new.self.items c.in_ok-link.link
          i.naming c.loop-edge-test.true c.edge-item.is c.from.ensures.value link.whole link.grows link.link c.in_ok-push.ensures.items;
      undecided = link.undecided ∙ i.undecided;
      no_fewer = omega (arith, i.no_fewer, link.no_fewer);
      at_most = omega (arith, i.at_most, link.at_most);
    }
