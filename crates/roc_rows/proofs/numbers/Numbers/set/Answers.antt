use Rattle.std.proofs.Common.{◌∙◌, ◌≢◌, ap, sym, pos, Some, None, w64, to_z, of_z, unwrap_or}
use Rattle.std.proofs.lemmas.Int.{to_z-of_z}
use Rattle.roc_rows.specs.Store.{write}
use Rattle.roc_rows.specs.Inner.Writes.{none≢some}
use Rattle.roc_rows.proofs.Stores.{store_of-put, HasNoZero-put}
use Rattle.roc_rows.proofs.numbers.Numbers.set.Goals as goal

pub invariant_of-self : goal.invariant_of-self
invariant_of-self c = HasNoZero-put _ _ c.args.cell None none≢some c.self.invariant c.remove.ensures.updates.0

pub invariant_of-self-in_ok-insert : goal.invariant_of-self-in_ok-insert
invariant_of-self-in_ok-insert c =
    let back = to_z-of_z w64 c.args.number c.ranges.number in
    let other : Some (to_z w64 (of_z w64 c.args.number)) ≢ Some (pos 0) = λ e. c.if-number-eq0.false (ap (of_z w64) (sym back ∙ ap (λ o. unwrap_or o (pos 0)) e)) in
    HasNoZero-put _ _ c.args.cell _ other c.self.invariant c.in_ok-insert.ensures.updates.0

pub returns-then-number-eq0-clause-ok : goal.returns-then-number-eq0-clause-ok
returns-then-number-eq0-clause-ok c =
    store_of-put _ _ c.args.cell None c.remove.ensures.updates.0 ∙ ap (λ h. write h.store c.args.cell (pos 0)) c.self.view_is
    ∙ ap (write c.args.self.now.store c.args.cell) (sym (ap (to_z w64) c.if-number-eq0.true) ∙ to_z-of_z w64 c.args.number c.ranges.number)

pub returns-in_ok-insert-clause-ok : goal.returns-in_ok-insert-clause-ok
returns-in_ok-insert-clause-ok c =
    let back = to_z-of_z w64 c.args.number c.ranges.number in
    store_of-put _ _ c.args.cell (Some (to_z w64 (of_z w64 c.args.number))) c.in_ok-insert.ensures.updates.0
    ∙ ap (λ h. write h.store c.args.cell (to_z w64 (of_z w64 c.args.number))) c.self.view_is ∙ ap (write c.args.self.now.store c.args.cell) back
