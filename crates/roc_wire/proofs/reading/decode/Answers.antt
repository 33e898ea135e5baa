use Rattle.std.proofs.Common.{ap, subst, ◌∙◌, arith}
use Rattle.roc_wire.specs.Reading.{IsRead, datagram}
use Rattle.roc_wire.proofs.Whole.{is_found, again}
use Rattle.roc_wire.proofs.reading.decode.Goals as goal

pub returns-clause-found : goal.returns-clause-found
returns-clause-found c = is_found (λ x. (x.0, x.1)) c.args.bytes.now c.datagram_of.result (λ i. omega (arith, c.type_inv.bytes i)) c.datagram_of.ensures

pub returns-clause-only : goal.returns-clause-only
returns-clause-only c = λ header msg fits e. subst (λ read. IsRead (λ x. (x.0, x.1)) c.datagram_of.result read) (ap datagram e ∙ again header msg fits) c.datagram_of.ensures
