use Rattle.std.proofs.Common.{ap}
use Rattle.roc_readonly.specs.declared.view.View.{View}
use Rattle.roc_coord.proofs.Keeping.{views_more}
use Rattle.roc_coord.proofs.coord.Coord.accept_view.Goals as goal

pub invariant_of-self-2 : goal.invariant_of-self-2
invariant_of-self-2 c =
    views_more c.self.inside.ids c.give.new.ids c.next_id-id.result c.next_id-id.ensures c.give.ensures.number c.in_ok-give.ensures.next c.in_ok-give.ensures.unanswered
    c.self.inside.pending.items c.self.inside.views.items c.self.invariant c.in_ok-v.v c.give.new.items.items (ap (λ (v : View). v.id) c.in_ok-v.ensures.kept) c.in_ok-give.ensures.items
