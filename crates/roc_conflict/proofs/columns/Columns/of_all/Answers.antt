use Rattle.roc_program.specs.Conflict.{are_in_conflict}
use Rattle.roc_program.specs.Pieces.{piece_ids}
use Rattle.roc_conflict.proofs.Gathering.{one_more_procedure}
use Rattle.roc_conflict.proofs.columns.Columns.of_all.Goals as goal

pub loop-proc-preserved : goal.loop-proc-preserved
loop-proc-preserved c = λ id.
    one_more_procedure (are_in_conflict c.args.workload.now id) (piece_ids c.args.workload.now) c.loop-proc.proc _ _ (c.loop-proc.invariant id) (c.add_procedure.ensures id)
