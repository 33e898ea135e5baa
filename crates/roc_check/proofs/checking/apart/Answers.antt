use Rattle.std.proofs.Common.{refl}
use Rattle.roc_conflict.specs.Classes.{is_immediate}
use Rattle.roc_check.specs.Checked.{apart}
use Rattle.roc_check.proofs.Witnessed.{apart_cycle}
use Rattle.roc_check.proofs.checking.apart.Goals as goal

pub cycle_of-requires-clause-cycle : goal.cycle_of-requires-clause-cycle
cycle_of-requires-clause-cycle c = apart_cycle c.args.workload (is_immediate c.args.classes.now) c.requires.immediate c.args.p c.args.q c.requires.apart.is

pub returns-in-Ok : goal.returns-in-Ok
returns-in-Ok c = (refl, apart (is_immediate c.args.classes.now) c.args.p c.args.q c.in-Ok.cycle c.requires.immediate c.requires.apart c.in-Ok.ensures)
