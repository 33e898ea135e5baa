use Rattle.std.proofs.Common.{arith}
use Rattle.std.proofs.lemmas.Grind.{common_steps}
use Rattle.roc_coord.specs.Tick.{awaits_startok}
use Rattle.roc_sequence.proofs.Ranges.{filter_range_more}
use Rattle.roc_coord.proofs.starts.awaiting_groups.Goals as goal

pub loop-group-preserved : goal.loop-group-preserved
loop-group-preserved c = grind (arith, common_steps, filter_range_more (awaits_startok c.args.x.now) c.loop-group.group)
