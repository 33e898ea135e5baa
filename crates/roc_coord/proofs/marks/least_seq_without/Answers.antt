use Rattle.std.proofs.Common.{◌≡◌, ◌∷◌, ◌+◌, ◌∙◌, ℕ, Bool, cond, not, filter, List, ap, sym, rules, drop, get_or, min}
use Rattle.roc_base.specs.declared.id.TxnId.{TxnId}
use Rattle.roc_base.specs.TxnId.{is_txn}
use Rattle.roc_sequence.proofs.Fronts.{rest_at}
use Rattle.roc_coord.specs.Marks.{least_seq}
use Rattle.roc_coord.proofs.Least.{least-more}
use Rattle.roc_coord.proofs.marks.least_seq_without.Goals as goal
use Rattle.roc_coord.proofs.marks.least_seq_without.Goals.{then-ne, else-ne}

pub loop-other-preserved : goal.loop-other-preserved
loop-other-preserved c =
    let ids = c.args.ids.now in
    let none : TxnId = record { coord = 0; seq = 0 } in
    let other : TxnId = get_or ids c.loop-other.other-index none in
    let is_left : TxnId → Bool = λ u. not (is_txn u c.args.id) in
    let rest = filter is_left (drop (c.loop-other.other-index + 1) ids) in
    let split : Bool → List TxnId = λ b. cond b (other ∷ rest) rest in
    let from_here : List TxnId → ℕ = λ us. least_seq us c.loop-other.least in
    let parts = ap (filter is_left) (rest_at ids c.loop-other.other-index none c.loop-other-test.true) in
    elim c.if-ne.branch [
      | then-ne w ↦ (
          let least : w.min-least.result ≡ min c.loop-other.least other.seq = search rules in
          ap (least_seq rest) (w.least-is ∙ least) ∙ least-more rest c.loop-other.least other.seq ∙ sym (ap from_here (parts ∙ ap split (sym c.ne.ensures ∙ w.if-ne.true))) ∙ c.loop-other.invariant)
      | else-ne w ↦ ap (least_seq rest) w.least-is ∙ sym (ap from_here (parts ∙ ap split (sym c.ne.ensures ∙ w.if-ne.false))) ∙ c.loop-other.invariant
    ]
