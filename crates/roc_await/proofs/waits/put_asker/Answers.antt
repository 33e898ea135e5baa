use Rattle.std.proofs.Common.{◌≡◌, ◌≤◌, ◌∙◌, List, length, filter, insert, ap, arith}
use Rattle.roc_step.specs.declared.waits.Asker.{Asker}
use Rattle.roc_step.specs.Waits.{is_asker_before}
use Rattle.roc_await.proofs.PutInPlace.{put_in_place, place_within}
use Rattle.roc_await.proofs.Orders.{asker_order}
use Rattle.roc_await.proofs.waits.put_asker.Goals as goal

pub insert-requires : goal.insert-requires
insert-requires c =
    let xs = c.args.all.now.items in
    let a = c.args.asker in
    let at = c.count_askers_before-at.result in
    let count : at ≡ length (filter (λ x. is_asker_before x a) xs) = c.count_askers_before-at.ensures ∙ ap (λ (l : List Asker). length (filter (λ x. is_asker_before x a) l)) c.deref.ensures.value in
    let within : at ≤ length c.keep_other_askers.new.all.items = place_within is_asker_before asker_order a xs c.keep_other_askers.new.all.items at c.requires.order count c.keep_other_askers.ensures.items in
    omega (arith, within, c.keep_other_askers.new.all.ok)

pub returns-clause-items : goal.returns-clause-items
returns-clause-items c =
    let xs = c.args.all.now.items in
    let a = c.args.asker in
    let at = c.count_askers_before-at.result in
    let count : at ≡ length (filter (λ x. is_asker_before x a) xs) = c.count_askers_before-at.ensures ∙ ap (λ (l : List Asker). length (filter (λ x. is_asker_before x a) l)) c.deref.ensures.value in
    let made : c.insert.new.self.items ≡ insert c.keep_other_askers.new.all.items at a = rw c.unwrap.ensures at c.insert.ensures.items in
    put_in_place is_asker_before asker_order a xs c.keep_other_askers.new.all.items c.insert.new.self.items at c.requires.order count c.keep_other_askers.ensures.items made
