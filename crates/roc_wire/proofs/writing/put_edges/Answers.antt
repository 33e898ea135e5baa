-- The count is written, then one element behind the other
use Rattle.std.proofs.Common.{length}
use Rattle.std.specs.Int.{w16, to_be_bytes}
use Rattle.roc_wire.specs.Spelling.{edge_bytes}
use Rattle.roc_wire.proofs.Parts.{begun, one_more, ended}
use Rattle.roc_wire.proofs.writing.put_edges.Goals as goal

pub loop-edge-init : goal.loop-edge-init
loop-edge-init c = begun c.args.out.now.items c.put_u16.new.out.items (to_be_bytes w16 (length c.args.edges.now)) c.in_ok-put_u16.ensures

pub loop-edge-preserved : goal.loop-edge-preserved
loop-edge-preserved c = one_more edge_bytes _ c.loop-edge.out.items c.put_edge.new.out.items c.args.edges.now c.loop-edge.edge-index c.edge-item.result c.edge-item.result c.loop-edge-test.true c.edge-item.is c.loop-edge.invariant c.in_ok-put_edge.ensures

pub returns : goal.returns
returns c = ended edge_bytes c.args.out.now.items (to_be_bytes w16 (length c.args.edges.now)) c.loop-edge.out.items c.args.edges.now c.loop-edge.edge-index c.loop-edge-test.false c.loop-edge.invariant
