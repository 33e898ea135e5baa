use Rattle.std.proofs.Common.{◌∙◌}
use Rattle.roc_wire.proofs.FixedWidth.{number_of_two}
use Rattle.roc_wire.proofs.numbers.u16_from.Goals as goal

pub returns : goal.returns
returns c = c.read_u16.ensures ∙ number_of_two c.args.bytes.now
