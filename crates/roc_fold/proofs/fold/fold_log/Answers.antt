use Rattle.std.proofs.Common.{sym}
use Rattle.roc_base.specs.declared.node.Node.TheVariants.{Server, Coord}
use Rattle.roc_fold.specs.Folded.{header_of}
use Rattle.roc_fold.proofs.Ending.{found_alike}
use Rattle.roc_fold.proofs.fold.fold_log.Goals as goal

pub returns-in-Server : goal.returns-in-Server
returns-in-Server c =
    found_alike c.args.plan.now (header_of c.args.log.now) (Server c.in-Server.shard) c.args.log.now.node _ c.args.log.now.lines c.fold_server.result c.in-Server.is
    (sym c.as_slice.ensures) c.fold_server.ensures

pub returns-in-Coord : goal.returns-in-Coord
returns-in-Coord c =
    found_alike c.args.plan.now (header_of c.args.log.now) (Coord c.in-Coord.number) c.args.log.now.node _ c.args.log.now.lines c.fold_coord.result c.in-Coord.is
    (sym c.as_slice-in-Coord.ensures) c.fold_coord.ensures
