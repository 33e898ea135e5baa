use Rattle.std.proofs.Common.{refl}
use Rattle.roc_conflict.specs.Classes.{is_immediate}
use Rattle.roc_check.specs.Checked.{blocked}
use Rattle.roc_check.proofs.Witnessed.{blocked_cycle}
use Rattle.roc_check.proofs.checking.blocked.Goals as goal

pub cycle_of-requires-clause-cycle : goal.cycle_of-requires-clause-cycle
cycle_of-requires-clause-cycle c =
    blocked_cycle c.args.workload (is_immediate c.args.classes.now) c.requires.immediate c.procedures.ensures.well_formed c.args.p c.args.q c.args.x c.requires.blocked.is

pub returns-in-Ok : goal.returns-in-Ok
returns-in-Ok c = (refl, blocked (is_immediate c.args.classes.now) c.args.p c.args.q c.args.x c.in-Ok.cycle c.requires.immediate c.requires.blocked c.in-Ok.ensures)
