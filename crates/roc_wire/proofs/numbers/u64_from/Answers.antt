use Rattle.std.proofs.Common.{◌∙◌}
use Rattle.roc_wire.proofs.FixedWidth.{number_of_eight}
use Rattle.roc_wire.proofs.numbers.u64_from.Goals as goal

pub returns : goal.returns
returns c = c.read_u64.ensures ∙ number_of_eight c.args.bytes.now
