use Rattle.std.proofs.Common.{arith}
use Rattle.roc_wire.proofs.Rises.{rising_given}
use Rattle.roc_wire.proofs.lists.rising_entries.Goals as goal

pub returns-clause-rising : goal.returns-clause-rising
returns-clause-rising c = rising_given (λ x. (x.0.items, x.1.now)) c.several_entries.result c.args.count c.args.bytes.now (λ i. omega (arith, c.type_inv.bytes i)) c.several_entries.ensures
