use Rattle.std.proofs.Common.{subst}
use Rattle.roc_conflict.specs.Inner.Gathered.{AddsStatements}
use Rattle.roc_conflict.proofs.Gathering.{piece_added}
use Rattle.roc_conflict.proofs.columns.Columns.add.Goals as goal

pub returns : goal.returns
returns c =
    piece_added c.args.workload.now c.args.id c.args.self.now c.add_statements.new.self c.procedures.ensures.well_formed
    (subst (AddsStatements c.args.self.now c.add_statements.new.self) c.exposed.ensures c.add_statements.ensures)
