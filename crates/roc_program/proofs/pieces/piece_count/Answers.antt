use Rattle.std.proofs.Common.{rules}
use Rattle.roc_program.proofs.Counted.{few_pieces}
use Rattle.roc_program.proofs.pieces.piece_count.Goals as goal

pub overflow_cast-result : goal.overflow_cast-result
overflow_cast-result c =
    let few = few_pieces c.args.workload.now c.procedures.result.now c.args.proc c.from.result c.index-procedures-from.result c.procedures.ensures.well_formed c.procedures.ensures.value c.requires c.from.ensures c.index-procedures-from.is in
    search rules
