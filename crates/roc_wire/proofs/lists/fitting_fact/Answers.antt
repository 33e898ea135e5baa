use Rattle.std.proofs.Common.{arith}
use Rattle.roc_wire.proofs.Rises.{fits_given}
use Rattle.roc_wire.proofs.lists.fitting_fact.Goals as goal

pub returns-clause-fits : goal.returns-clause-fits
returns-clause-fits c = fits_given (λ x. (x.0, x.1.now)) c.fact_of.result (c.args.last, c.args.left) c.args.bytes.now (omega arith) (λ i. omega (arith, c.type_inv.bytes i)) c.fact_of.ensures
