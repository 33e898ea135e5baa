use Rattle.std.proofs.Common.{◌≡◌, ◌∙◌, sym, ap}
use Rattle.roc_base.specs.TxnId.{is_txn}
use Rattle.roc_base.specs.Equalities.{is_txn-true}
use Rattle.roc_base.specs.Inner.Place.{entry_place}
use Rattle.roc_base.proofs.Place.{IsAt-place, IsGapFor-other, IsGapFor-end}
use Rattle.roc_base.proofs.edges.place.Goals as goal
use Rattle.roc_base.proofs.edges.place.Goals.{else-at-edges-via-then-at-edges+else-eq, else-at-edges-via-else-at-edges}

pub returns-then-eq-clause-found : goal.returns-then-eq-clause-found
returns-then-eq-clause-found c =
    let id = c.args.id in
    let edges = c.args.edges.now in
    let at : c.entry_place-at.result ≡ entry_place id edges = c.entry_place-at.ensures.place in
    let same = is_txn-true c.from.result id (sym c.eq.ensures ∙ c.if-eq.true) in
    IsAt-place id c.index-edges-at.result edges _ at c.if-at-edges.true c.index-edges-at.is (sym c.from.ensures.value ∙ same)

pub returns-else-at-edges-clause-absent : goal.returns-else-at-edges-clause-absent
returns-else-at-edges-clause-absent c =
    let id = c.args.id in
    let edges = c.args.edges.now in
    let at : c.entry_place-at.result ≡ entry_place id edges = c.entry_place-at.ensures.place in
    elim c.else-at-edges.branch [
      | else-at-edges-via-then-at-edges+else-eq w ↦ (
          let other = ap (λ from. is_txn from id) (sym w.from.ensures.value) ∙ (sym w.eq.ensures ∙ w.if-eq.false) in
          IsGapFor-other id w.index-edges-at.result edges _ c.requires at w.if-at-edges.true w.index-edges-at.is other)
      | else-at-edges-via-else-at-edges w ↦ IsGapFor-end id edges _ c.requires at c.entry_place-at.ensures.bound w.if-at-edges.false
    ]
