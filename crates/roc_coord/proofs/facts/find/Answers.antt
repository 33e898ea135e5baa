use Rattle.std.proofs.Common.{◌≡◌, Bool, true, false, ap, sym, ◌∙◌}
use Rattle.roc_base.specs.TxnId.{is_txn}
use Rattle.roc_depgraph.specs.declared.known.KnownList.{KnownList}
use Rattle.roc_coord.proofs.Gathering.{place_within, fact_at, fact_gap, at_other, at_end}
use Rattle.roc_coord.proofs.facts.find.Goals as goal

pub returns-then-at-facts-clause-absent : goal.returns-then-at-facts-clause-absent
returns-then-at-facts-clause-absent c =
    let id = c.args.id in
    let facts = c.args.facts.now in
    let at = c.place-at.result in
    fact_gap id facts at c.requires c.place-at.ensures (place_within id facts at c.place-at.ensures) (at_end id facts at c.if-at-facts.true)

pub returns-then-eq-clause-found : goal.returns-then-eq-clause-found
returns-then-eq-clause-found c =
    let id = c.args.id in
    let is_own : KnownList → Bool = λ fact. is_txn fact.of id in
    let own : is_txn c.index-facts-at.result.of id ≡ true = ap is_own c.index-facts-at.is ∙ sym c.eq.ensures ∙ c.if-eq.true in
    fact_at id c.index-facts-at.result c.args.facts.now c.place-at.result c.requires c.place-at.ensures c.if-at-facts.false c.index-facts-at.is own

pub returns-else-eq-clause-absent : goal.returns-else-eq-clause-absent
returns-else-eq-clause-absent c =
    let id = c.args.id in
    let facts = c.args.facts.now in
    let at = c.place-at.result in
    let is_own : KnownList → Bool = λ fact. is_txn fact.of id in
    let other : is_txn c.index-facts-at.result.of id ≡ false = ap is_own c.index-facts-at.is ∙ sym c.eq.ensures ∙ c.if-eq.false in
    fact_gap id facts at c.requires c.place-at.ensures (place_within id facts at c.place-at.ensures) (at_other id c.index-facts-at.result facts at c.index-facts-at.is other)
