use Rattle.std.proofs.Common.{◌∙◌, ◌++◌, ◌∷◌, [], ap, subst, sym, cond, Some}
use Rattle.roc_base.specs.declared.id.TxnId.{TxnId}
use Rattle.std.specs.BTreeMap.{btree_map_len}
use Rattle.std.specs.Ordering.{is_eq}
use Rattle.roc_base.specs.TxnId.{txn_cmp}
use Rattle.roc_depgraph.specs.Deps.{Precedes}
use Rattle.roc_component.specs.declared.search.Part.{Part}
use Rattle.roc_component.specs.Inner.Search.{IsSearch, met_of}
use Rattle.roc_component.proofs.LeadingTo.{todo_are}
use Rattle.roc_component.proofs.OneChange.{mapped_bounded, one_more}
use Rattle.roc_component.proofs.SearchOpened.{at_x, kept, opened}
use Rattle.roc_component.proofs.search.Search.open.Goals as goal

pub returns : goal.returns
returns c S inside s o =
    let p : Part = record { start = c.len-start.result; members = c.push.new.self; todo = c.in_ok-todo.todo } in
    let met = met_of c.args.met.now in
    let more = met_of c.insert.new.self in
    let count = btree_map_len c.args.met.now in
    let at = λ (q : TxnId). c.in_ok-insert.ensures.updates.0 q ∙ ap (λ n. cond (is_eq (txn_cmp c.args.id q)) (Some n) (met q)) c.len-start.ensures.len in
    let one = one_more c.in_ok-insert.field-0 (btree_map_len c.insert.new.self) count (c.in_ok-insert.ensures.old ∙ o.new) c.in_ok-insert.ensures.len in
    let t = opened (Precedes c.args.lists.now) S met more count (btree_map_len c.insert.new.self) c.args.self.now.path.items c.args.self.now.done c.args.self.now.components.items c.args.id p s o
    c.len-start.ensures.len (c.in_ok-push.ensures.items ∙ ap (λ l. l ++ c.args.id ∷ []) c.new-members.ensures.items) (todo_are c.args.lists.now c.args.id c.in_ok-todo.todo.items c.in_ok-todo.ensures) at one inside in
    record {
      search = subst (λ l. IsSearch (Precedes c.args.lists.now) S more (btree_map_len c.insert.new.self) l c.args.self.now.done c.args.self.now.components.items) (sym c.in_ok-push-2.ensures.items) t;
      longer = one;
      bounded = mapped_bounded c.insert.new.self S c.in_ok-insert.ensures.ordered t.within;
      keeps = λ u w. (w.0, kept (Precedes c.args.lists.now) S met more count c.args.id o.new at u w.0 w.1);
      own = (count, at_x (Precedes c.args.lists.now) S met more count c.args.id o.new at);
    }
