use Rattle.std.proofs.Common.{ap}
use Rattle.roc_coord.specs.declared.transaction.Transaction.{Transaction}
use Rattle.roc_coord.proofs.Keeping.{kept_more}
use Rattle.roc_coord.proofs.coord.Coord.accept_transaction.Goals as goal

pub invariant_of-self-2 : goal.invariant_of-self-2
invariant_of-self-2 c =
    kept_more c.self.inside.ids c.give.new.ids c.next_id-id.result c.next_id-id.ensures c.give.ensures.number c.in_ok-give.ensures.next c.in_ok-give.ensures.unanswered
    c.self.inside.pending.items c.self.inside.views.items c.self.invariant c.in_ok-x.x c.give.new.items.items (ap (λ (v : Transaction). v.id) c.in_ok-x.ensures.kept) c.in_ok-give.ensures.items
