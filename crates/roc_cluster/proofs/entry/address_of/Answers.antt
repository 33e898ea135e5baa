use Rattle.std.proofs.Common.{ℕ, List, sym, subst}
use Rattle.std.specs.Net.Grammar.{IsDotted}
use Rattle.roc_cluster.proofs.entry.address_of.Goals as goal

pub returns-in-Err-clause-none : goal.returns-in-Err-clause-none
returns-in-Err-clause-none c none bytes dotted =
    c.in-Err.ensures (record { octets = bytes }) (subst (λ (t : List ℕ). IsDotted t bytes) (sym c.as_bytes.ensures.value) dotted)
