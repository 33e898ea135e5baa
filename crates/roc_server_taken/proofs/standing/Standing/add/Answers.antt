use Rattle.std.proofs.Common.{◌<◌, ◌∙◌, ◌+◌, ◌++◌, ◌∷◌, [], cond, get_or, ap, refl, sym, subst, arith}
use Rattle.roc_sequence.specs.Lists.{Has}
use Rattle.roc_server_taken.specs.Inner.Over.{members_by_turn, AreBefore}
use Rattle.roc_server_taken.specs.Inner.Standing.{components_of, is_among}
use Rattle.roc_server_taken.proofs.LeftOpen.{put_behind}
use Rattle.roc_server_taken.proofs.Moves.{place_ahead, put_flat, put_parts, queue_stands, room_less}
use Rattle.roc_server_taken.proofs.Queues.{capacity_small}
use Rattle.roc_server_taken.proofs.standing.Standing.add.Goals as goal

pub count_in-requires : goal.count_in-requires
count_in-requires c = λ at small. omega (arith, c.self.invariant.room.within at small, capacity_small c.self.inside.parts at)

pub put-requires-clause-rising : goal.put-requires-clause-rising
put-requires-clause-rising c =
    let small : c.part_of.result < 16 = omega (arith, c.part_of.ensures) in
    (queue_stands c.self.inside.parts c.self.invariant refl small c.index-self-part_of.result).rising

pub put-requires-clause-room : goal.put-requires-clause-room
put-requires-clause-room c =
    place_ahead c.self.inside.parts c.self.inside.wanted c.self.inside.room c.self.invariant (omega (arith, c.requires.room, ap (λ s. s.room) c.self.view_is)) c.part_of.result
    (omega (arith, c.part_of.ensures)) c.index-self-part_of.result

pub invariant_of-self : goal.invariant_of-self
invariant_of-self c =
    let ds = c.self.inside.parts in
    let at = c.part_of.result in
    let d = c.index-self-part_of.result in
    let h = c.self.invariant in
    let small : at < 16 = omega (arith, c.part_of.ensures) in
    let some : 0 < c.self.inside.room = omega (arith, c.requires.room, ap (λ s. s.room) c.self.view_is) in
    put_parts ds h.count h.each at small d _ _ c.put.ensures.put c.put.ensures.rising (sym c.part_of.ensures)
    ((put_behind _ _ _ (put_flat ds h.count h.each at small d _ _ c.put.ensures.put) h.standing
    (subst (Has c.open_or_first-under.result) c.as_slice.ensures c.open_or_first-under.ensures)
    (subst (λ s. AreBefore c.args.turn (components_of s)) (sym c.self.view_is) c.requires.before)).0) _ _ _
    (room_less ds c.self.inside.wanted c.self.inside.room h some at small d _ _ c.put.ensures.put c.put.ensures.capacity _
    (λ k low. c.count_in.ensures.each k low ∙ ap (λ ms. get_or c.self.inside.wanted k 0 + cond (is_among k ms) 1 0) c.as_slice-2.ensures))
    (c.count_in.ensures.count ∙ h.counts)

pub returns-clause-before : goal.returns-clause-before
returns-clause-before c =
    let ds = c.self.inside.parts in
    let h = c.self.invariant in
    let small : c.part_of.result < 16 = omega (arith, c.part_of.ensures) in
    (put_behind _ _ _ (put_flat ds h.count h.each c.part_of.result small c.index-self-part_of.result _ _ c.put.ensures.put) h.standing
    (subst (Has c.open_or_first-under.result) c.as_slice.ensures c.open_or_first-under.ensures)
    (subst (λ s. AreBefore c.args.turn (components_of s)) (sym c.self.view_is) c.requires.before)).1.0

pub returns-clause-members : goal.returns-clause-members
returns-clause-members c =
    let ds = c.self.inside.parts in
    let h = c.self.invariant in
    let small : c.part_of.result < 16 = omega (arith, c.part_of.ensures) in
    (put_behind _ _ _ (put_flat ds h.count h.each c.part_of.result small c.index-self-part_of.result _ _ c.put.ensures.put) h.standing
    (subst (Has c.open_or_first-under.result) c.as_slice.ensures c.open_or_first-under.ensures)
    (subst (λ s. AreBefore c.args.turn (components_of s)) (sym c.self.view_is) c.requires.before)).1.1
    ∙ ap (λ s. members_by_turn (components_of s) ++ c.args.members ∷ []) c.self.view_is
