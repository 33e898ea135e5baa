use Rattle.std.proofs.Common.{arith, is_none}
use Rattle.std.proofs.lemmas.Grind.{common_steps}
use Rattle.roc_readonly.specs.Round.{find_read}
use Rattle.roc_sequence.proofs.Ranges.{filter_range_more}
use Rattle.roc_readonly.proofs.reads.missing_groups.Goals as goal

pub loop-group-preserved : goal.loop-group-preserved
loop-group-preserved c = grind (arith, common_steps, filter_range_more (λ g. is_none (find_read g c.args.got.now)) c.loop-group.group)
