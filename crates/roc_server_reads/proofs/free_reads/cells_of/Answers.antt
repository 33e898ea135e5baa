use Rattle.std.proofs.Common.{length, sym, ap, ◌∙◌}
use Rattle.roc_server_reads.proofs.free_reads.cells_of.Goals as goal

pub cells-requires-clause-deferrable : goal.cells-requires-clause-deferrable
cells-requires-clause-deferrable c = c.views_are_apart.ensures.deferrable c.args.plan.now c.workload-workload.ensures.accepted c.args.read.now.proc c.requires.fits.view c.args.read.now.group

pub cells-requires-clause-args : goal.cells-requires-clause-args
cells-requires-clause-args c = ap length c.requires.args ∙ c.requires.fits.args

pub cells-requires-clause-inputs : goal.cells-requires-clause-inputs
cells-requires-clause-inputs c =
    ap length c.requires.inputs
    ∙ sym (ap length (c.views_are_apart.ensures.inputs c.args.plan.now c.workload-workload.ensures.accepted c.args.read.now.proc c.requires.fits.view c.args.read.now.group))
