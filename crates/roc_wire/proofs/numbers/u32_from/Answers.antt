use Rattle.std.proofs.Common.{◌∙◌}
use Rattle.roc_wire.proofs.FixedWidth.{number_of_four}
use Rattle.roc_wire.proofs.numbers.u32_from.Goals as goal

pub returns : goal.returns
returns c = c.read_u32.ensures ∙ number_of_four c.args.bytes.now
