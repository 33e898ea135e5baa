use Rattle.roc_await.proofs.SideBySide.{run_is, run_len}
use Rattle.roc_await.proofs.waits.askers_of.Goals as goal

pub slice_bounds-result-end-2 : goal.slice_bounds-result-end-2
slice_bounds-result-end-2 c = run_len c.args.id c.args.askers.now c.requires c.count_below-from.result c.count_same-len.result c.count_below-from.ensures.count c.count_same-len.ensures

pub returns : goal.returns
returns c = run_is c.args.id c.args.askers.now c.requires c.count_below-from.result c.count_same-len.result c.count_below-from.ensures.count c.count_same-len.ensures
