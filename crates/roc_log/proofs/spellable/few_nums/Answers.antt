use Rattle.std.proofs.Common.{rules}
use Rattle.roc_log.proofs.Ranges.{nums_along}
use Rattle.roc_log.proofs.spellable.few_nums.Goals as goal

pub returns-clause-fits : goal.returns-clause-fits
returns-clause-fits c h = (search rules, nums_along c.args.nums.now c.have_width.ensures)
