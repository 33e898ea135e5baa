use Rattle.std.proofs.Common.{arith}
use Rattle.std.proofs.lemmas.Bool.Decides.{nat_tests}
use Rattle.roc_check.proofs.PieceSets.{none_above}
use Rattle.roc_check.proofs.piece_sets.has_bit.Goals as goal

pub returns-else-bit-lt16 : goal.returns-else-bit-lt16
returns-else-bit-lt16 c = grind (arith, nat_tests, none_above c.args.word c.args.bit (omega arith) (omega arith))
