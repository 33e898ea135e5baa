use Rattle.std.proofs.Common.{◌≡◌, ◌<◌, ◌==◌, ◌∙◌, ◌+◌, cond, Bool, List, get_or, false, true, ap, refl, subst, sym, arith}
use Rattle.std.proofs.lemmas.Bool.{and_parts}
use Rattle.std.specs.List.{AllByRecursion}
use Rattle.roc_sequence.specs.Lists.{Has}
use Rattle.roc_step.specs.Below.{is_ended}
use Rattle.roc_step.specs.Forgets.{is_over}
use Rattle.roc_server_taken.specs.declared.components.Component.{Component}
use Rattle.roc_server_taken.specs.Inner.Over.{is_under}
use Rattle.roc_server_taken.specs.Inner.Standing.{components_of, is_among}
use Rattle.roc_server_taken.proofs.LeftOpen.{fewer_from, fewer_moved, goes, left_from, left_same, left_to, moves, one_more_passes, stands_less}
use Rattle.roc_server_taken.proofs.Moves.{dropped, moved, moved_flat, kept, out_flat, queue_is, queue_stands, rising_there, same_seen, place_there, wanted_some}
use Rattle.roc_server_taken.proofs.Parts.{flat, none_under}
use Rattle.roc_server_taken.proofs.Queues.{seen}
use Rattle.roc_server_taken.proofs.standing.Standing.move_or_drop.Goals as goal

pub take_ended-requires-clause-part : goal.take_ended-requires-clause-part
take_ended-requires-clause-part c = queue_stands c.self.inside.parts c.self.invariant c.from.ensures c.requires c.index-self-from.result

pub invariant_of-self : goal.invariant_of-self
invariant_of-self c =
    kept c.self.inside.parts c.from.result c.index-self-from.result _ c.in_default.ensures.none.0 c.in_default.ensures.capacity c.self.inside.wanted c.self.inside.room c.self.invariant

pub returns-in_default-clause-left : goal.returns-in_default-clause-left
returns-in_default-clause-left c =
    let below = c.args.marks.now in
    left_from below _ _ _ (ap components_of c.self.view_is)
    (left_to below _ _ _ (ap flat (sym (same_seen c.self.inside.parts c.from.result c.index-self-from.result _ c.in_default.ensures.none.0)))
    (left_same below (flat (seen c.self.inside.parts)) c.self.invariant.standing))

pub returns-in_default-clause-none : goal.returns-in_default-clause-none
returns-in_default-clause-none c = λ e.
    let ds = c.self.inside.parts in
    let d = c.index-self-from.result in
    let None : List Component → Type 0 = AllByRecursion (λ (d : Component). is_under c.args.marks.now c.args.coord d ≡ false) in
    subst (λ ps. None (flat ps)) (sym (same_seen ds c.from.result d _ c.in_default.ensures.none.0))
    (none_under c.args.marks.now c.args.coord c.requires (seen ds) c.self.invariant.count c.self.invariant.each
    (subst None (sym (queue_is c.self.inside.parts c.self.invariant c.from.ensures c.requires d)) c.in_default.ensures.none.1))

pub put-requires-clause-rising : goal.put-requires-clause-rising
put-requires-clause-rising c =
    let ds = c.self.inside.parts in
    let d = c.index-self-from.result in
    let h = c.self.invariant in
    let from : c.from.result < 16 = omega (arith, c.requires, c.from.ensures) in
    let out = c.in-Some.ensures.some.0 in
    let same = c.in-Some.ensures.capacity in
    rising_there ds d _ h from out same c.part_of.result (omega (arith, c.part_of.ensures)) c.index-self-part_of.result

pub put-requires-clause-room : goal.put-requires-clause-room
put-requires-clause-room c =
    let ds = c.self.inside.parts in
    let d = c.index-self-from.result in
    let h = c.self.invariant in
    let from : c.from.result < 16 = omega (arith, c.requires, c.from.ensures) in
    let out = c.in-Some.ensures.some.0 in
    let same = c.in-Some.ensures.capacity in
    place_there ds d _ h from out same c.part_of.result (omega (arith, c.part_of.ensures))
    (record { under = c.in-Some-open_member.under; turn = c.in-Some.component.turn; members = c.in-Some.component.members }) refl (sym c.part_of.ensures)
    (subst (Has c.in-Some-open_member.under) c.as_slice.ensures c.in-Some-open_member.ensures.some.0)
    (stands_less c.args.marks.now _ _ _ h.standing (out_flat ds d _ h from out same)) c.index-self-part_of.result

pub invariant_of-self-in-Some-open_member : goal.invariant_of-self-in-Some-open_member
invariant_of-self-in-Some-open_member c =
    let ds = c.self.inside.parts in
    let d = c.index-self-from.result in
    let h = c.self.invariant in
    let from : c.from.result < 16 = omega (arith, c.requires, c.from.ensures) in
    let out = c.in-Some.ensures.some.0 in
    let same = c.in-Some.ensures.capacity in
    let id = c.in-Some-open_member.under in
    let has = subst (Has id) c.as_slice.ensures c.in-Some-open_member.ensures.some.0 in
    let to : c.part_of.result < 16 = omega (arith, c.part_of.ensures) in
    moved ds d _ h from out same
    c.part_of.result to _ refl (sym c.part_of.ensures) has c.index-self-part_of.result _ c.put.ensures.put c.put.ensures.capacity c.put.ensures.rising
    ((moves c.args.marks.now c.in-Some.component _ _ h.standing
    (out_flat ds d _ h from out same) id _ _ refl
    (moved_flat ds d _ h from out same
    c.part_of.result to _ refl (sym c.part_of.ensures) has c.index-self-part_of.result _ c.put.ensures.put c.put.ensures.capacity)
    has c.in-Some-open_member.ensures.some.1).standing)

pub returns-in-Some-open_member-clause-left : goal.returns-in-Some-open_member-clause-left
returns-in-Some-open_member-clause-left c =
    let ds = c.self.inside.parts in
    let d = c.index-self-from.result in
    let h = c.self.invariant in
    let from : c.from.result < 16 = omega (arith, c.requires, c.from.ensures) in
    let out = c.in-Some.ensures.some.0 in
    let same = c.in-Some.ensures.capacity in
    let id = c.in-Some-open_member.under in
    let has = subst (Has id) c.as_slice.ensures c.in-Some-open_member.ensures.some.0 in
    let to : c.part_of.result < 16 = omega (arith, c.part_of.ensures) in
    left_from c.args.marks.now _ _ _ (ap components_of c.self.view_is)
    (moves c.args.marks.now c.in-Some.component _ _ h.standing
    (out_flat ds d _ h from out same) id _ _ refl
    (moved_flat ds d _ h from out same
    c.part_of.result to _ refl (sym c.part_of.ensures) has c.index-self-part_of.result _ c.put.ensures.put c.put.ensures.capacity)
    has c.in-Some-open_member.ensures.some.1)

pub returns-in-Some-open_member-clause-fewer : goal.returns-in-Some-open_member-clause-fewer
returns-in-Some-open_member-clause-fewer c = λ e.
    let ds = c.self.inside.parts in
    let d = c.index-self-from.result in
    let h = c.self.invariant in
    let from : c.from.result < 16 = omega (arith, c.requires, c.from.ensures) in
    let out = c.in-Some.ensures.some.0 in
    let same = c.in-Some.ensures.capacity in
    let id = c.in-Some-open_member.under in
    let has = subst (Has id) c.as_slice.ensures c.in-Some-open_member.ensures.some.0 in
    let to : c.part_of.result < 16 = omega (arith, c.part_of.ensures) in
    let p : Component → Bool = λ (d : Component). is_ended c.args.marks.now d.under in
    fewer_from p _ _ _ (ap components_of c.self.view_is)
    (fewer_moved p c.in-Some.component _ _ _ _
    (out_flat ds d _ h from out same)
    (moved_flat ds d _ h from out same
    c.part_of.result to _ refl (sym c.part_of.ensures) has c.index-self-part_of.result _ c.put.ensures.put c.put.ensures.capacity)
    ((and_parts (c.in-Some.component.under.coord == c.args.coord) (is_ended c.args.marks.now c.in-Some.component.under) c.in-Some.ensures.some.1).1) c.in-Some-open_member.ensures.some.1)

pub count_out-requires : goal.count_out-requires
count_out-requires c = λ k low e.
    let ds = c.self.inside.parts in
    let d = c.index-self-from.result in
    let h = c.self.invariant in
    let from : c.from.result < 16 = omega (arith, c.requires, c.from.ensures) in
    let out = c.in-Some.ensures.some.0 in
    let same = c.in-Some.ensures.capacity in
    wanted_some ds d c.take_ended.new.components h from out same k low (ap (is_among k) (sym c.as_slice-2.ensures) ∙ e)

pub invariant_of-self-2 : goal.invariant_of-self-2
invariant_of-self-2 c =
    let ds = c.self.inside.parts in
    let d = c.index-self-from.result in
    let h = c.self.invariant in
    let from : c.from.result < 16 = omega (arith, c.requires, c.from.ensures) in
    let out = c.in-Some.ensures.some.0 in
    let same = c.in-Some.ensures.capacity in
    let over = subst (λ ms. is_over c.args.marks.now ms ≡ true) c.as_slice.ensures c.in_default-open_member.ensures.none in
    dropped ds d _ h from out same
    ((goes c.args.marks.now c.in-Some.component _ _ h.standing (out_flat ds d _ h from out same) over).standing) _
    (λ k low. c.count_out.ensures.each k low ∙ ap (λ ms. get_or c.count_out.new.wanted k 0 + cond (is_among k ms) 1 0) c.as_slice-2.ensures)
    c.count_out.ensures.count

pub returns-clause-left : goal.returns-clause-left
returns-clause-left c =
    let ds = c.self.inside.parts in
    let d = c.index-self-from.result in
    let h = c.self.invariant in
    let from : c.from.result < 16 = omega (arith, c.requires, c.from.ensures) in
    let out = c.in-Some.ensures.some.0 in
    let same = c.in-Some.ensures.capacity in
    let over = subst (λ ms. is_over c.args.marks.now ms ≡ true) c.as_slice.ensures c.in_default-open_member.ensures.none in
    left_from c.args.marks.now _ _ _ (ap components_of c.self.view_is)
    (goes c.args.marks.now c.in-Some.component _ _ h.standing (out_flat ds d _ h from out same) over)

pub returns-clause-fewer : goal.returns-clause-fewer
returns-clause-fewer c = λ e.
    let ds = c.self.inside.parts in
    let d = c.index-self-from.result in
    let h = c.self.invariant in
    let from : c.from.result < 16 = omega (arith, c.requires, c.from.ensures) in
    let out = c.in-Some.ensures.some.0 in
    let same = c.in-Some.ensures.capacity in
    let p : Component → Bool = λ (d : Component). is_ended c.args.marks.now d.under in
    fewer_from p _ _ _ (ap components_of c.self.view_is)
    (one_more_passes p c.in-Some.component _ _ (out_flat ds d _ h from out same)
    ((and_parts (c.in-Some.component.under.coord == c.args.coord) (is_ended c.args.marks.now c.in-Some.component.under) c.in-Some.ensures.some.1).1))
