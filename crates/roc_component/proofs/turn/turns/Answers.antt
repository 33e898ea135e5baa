use Rattle.std.proofs.Common.{◌∙◌, ◌++◌, ◌∷◌, [], List, Vec, Global, take, drop, suc, sym, subst, ap}
use Rattle.std.specs.List.{slice_get}
use Rattle.roc_base.specs.declared.id.TxnId.{TxnId}
use Rattle.roc_component.specs.Inner.Before.{leading_to}
use Rattle.std.specs.List.Sorted.{IsStrictlySortedBy}
use Rattle.roc_base.specs.TxnId.{txn_cmp}
use Rattle.roc_sequence.proofs.Fronts.{front_more, parts_at}
use Rattle.roc_component.specs.Components.{ShareNoMember}
use Rattle.roc_component.specs.Inner.Turns.{AreComponentTurns, IsInside, IsComponentTurn}
use Rattle.roc_component.proofs.SearchPath.{has_there}
use Rattle.roc_component.proofs.TurnsOf.{apart_parts, first_of, first_none, turns_push, turns_skip}
use Rattle.roc_component.specs.declared.turn.Turn.{Turn}
use Rattle.roc_component.proofs.turn.turns.Goals.{in-Some+in_ok-component_turn+in_ok-push, in_default}
use Rattle.roc_component.proofs.turn.turns.Goals as goal

pub component_turn-requires : goal.component_turn-requires
component_turn-requires c =
    let x = c.component-item.result in
    subst (IsStrictlySortedBy txn_cmp) (sym c.as_slice-in-Some.ensures) (c.requires.each x (has_there c.args.components.now c.loop-component.component-index x x c.loop-component-test.true c.component-item.is)).rising

pub loop-component-preserved : goal.loop-component-preserved
loop-component-preserved c =
    let known = c.args.lists.now in
    let cs = c.args.components.now in
    let n = c.loop-component.component-index in
    let x = c.component-item.result in
    let within = c.loop-component-test.true in
    let e = front_more cs n x within c.component-item.is in
    elim c.match-first.branch [
      | in-Some+in_ok-component_turn+in_ok-push w ↦
          (let t = w.in_ok-component_turn.field-0 in
          let k = w.in_ok-component_turn.ensures in
          let f = first_of x w.in-Some.key.now (w.in-Some.ensures.value ∙ ap (λ (l : List TxnId). slice_get l 0) c.as_slice.ensures) in
          let i : IsComponentTurn known x t = record {
            first = (f.0, f.1 ∙ ap (λ v. v ∷ f.0) (sym k.0));
            inside = subst (λ l. IsInside known l t.ids) w.as_slice-in-Some.ensures k.1;
            before = k.2 ∙ ap (λ l. leading_to known l l) w.as_slice-in-Some.ensures;
          } in
          let g = turns_push known (take n cs) c.loop-component.turns.items c.loop-component.invariant x t i (apart_parts (take n cs) x (drop (suc n) cs) (subst ShareNoMember (sym (parts_at cs n x within c.component-item.is)) c.requires.apart)) in
          subst (λ l. AreComponentTurns known l c.match-first.turns.items) e (subst (AreComponentTurns known (take n cs ++ x ∷ [])) (sym (ap (λ (v : Vec Turn Global). v.items) w.turns-is ∙ w.in_ok-push.ensures.items)) g))
      | in_default w ↦
          (let g = turns_skip known (take n cs) c.loop-component.turns.items c.loop-component.invariant x (first_none x (w.in_default.ensures.value ∙ ap (λ (l : List TxnId). slice_get l 0) c.as_slice.ensures)) in
          subst (λ l. AreComponentTurns known l c.match-first.turns.items) e (subst (AreComponentTurns known (take n cs ++ x ∷ [])) (sym (ap (λ (v : Vec Turn Global). v.items) w.turns-is)) g))
    ]
