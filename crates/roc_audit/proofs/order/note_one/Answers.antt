use Rattle.std.proofs.Common.{◌≡◌, true, false, cond, sym, ap, ◌∙◌, append-nil}
use Rattle.std.specs.HashSet.{contains}
use Rattle.roc_base.specs.TxnId.{is_txn}
use Rattle.roc_sequence.specs.Places.{is_listed}
use Rattle.roc_audit.proofs.Noted.{listed_more, unlisted, listed}
use Rattle.roc_audit.proofs.order.note_one.Goals as goal

pub returns-then-is_new-clause-items : goal.returns-then-is_new-clause-items
returns-then-is_new-clause-items c =
    let ids = c.args.ids.now.items in
    let new : is_listed is_txn ids c.args.id ≡ false =
    unlisted ids c.args.id (contains is_txn c.args.members.now c.args.id) c.unwrap-is_new.result (c.requires.members c.args.id) (rw c.unwrap-is_new.ensures at c.insert.ensures.added) c.if-is_new.true in
    rw new (rw c.unwrap.ensures at c.push.ensures.items)

pub returns-then-is_new-clause-members : goal.returns-then-is_new-clause-members
returns-then-is_new-clause-members c u =
    let put = rw c.unwrap-is_new.ensures at c.insert.ensures.updates in
    put.0 u ∙ ap (λ b. cond (is_txn c.args.id u) true b) (c.requires.members u) ∙ sym (listed_more c.args.ids.now.items c.args.id u)
    ∙ ap (λ ids. is_listed is_txn ids u) (sym (rw c.unwrap.ensures at c.push.ensures.items))

pub returns-else-is_new-clause-items : goal.returns-else-is_new-clause-items
returns-else-is_new-clause-items c =
    let ids = c.args.ids.now.items in
    let old : is_listed is_txn ids c.args.id ≡ true =
    listed ids c.args.id (contains is_txn c.args.members.now c.args.id) c.unwrap-is_new.result (c.requires.members c.args.id) (rw c.unwrap-is_new.ensures at c.insert.ensures.added) c.if-is_new.false in
    rw old (sym (append-nil ids))
