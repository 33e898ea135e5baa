use Rattle.roc_witness.proofs.Gathered.{conflict_is}
use Rattle.roc_witness.proofs.columns.Columns.conflict.Goals as goal

pub returns : goal.returns
returns c =
    conflict_is c.args.workload.now c.args.self.now.piece c.procedures.ensures.well_formed c.args.one c.exposed.result.now c.args.self.now c.collide_with_any.result c.requires c.exposed.ensures c.collide_with_any.ensures
