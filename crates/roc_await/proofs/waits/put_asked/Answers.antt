use Rattle.std.proofs.Common.{◌≡◌, ◌≤◌, ◌∙◌, List, length, filter, insert, ap, arith}
use Rattle.roc_step.specs.declared.waits.OpenFetch.{OpenFetch}
use Rattle.roc_step.specs.Waits.{is_asked_before}
use Rattle.roc_await.proofs.PutInPlace.{put_in_place, place_within}
use Rattle.roc_await.proofs.Orders.{asked_order}
use Rattle.roc_await.proofs.waits.put_asked.Goals as goal

pub insert-requires : goal.insert-requires
insert-requires c =
    let xs = c.args.all.now.items in
    let a = c.args.asked in
    let at = c.count_asked_before-at.result in
    let count : at ≡ length (filter (λ x. is_asked_before x a) xs) = c.count_asked_before-at.ensures ∙ ap (λ (l : List OpenFetch). length (filter (λ x. is_asked_before x a) l)) c.deref.ensures.value in
    let within : at ≤ length c.keep_other_asked.new.all.items = place_within is_asked_before asked_order a xs c.keep_other_asked.new.all.items at c.requires.order count c.keep_other_asked.ensures.items in
    omega (arith, within, c.keep_other_asked.new.all.ok)

pub returns-clause-items : goal.returns-clause-items
returns-clause-items c =
    let xs = c.args.all.now.items in
    let a = c.args.asked in
    let at = c.count_asked_before-at.result in
    let count : at ≡ length (filter (λ x. is_asked_before x a) xs) = c.count_asked_before-at.ensures ∙ ap (λ (l : List OpenFetch). length (filter (λ x. is_asked_before x a) l)) c.deref.ensures.value in
    let made : c.insert.new.self.items ≡ insert c.keep_other_asked.new.all.items at a = rw c.unwrap.ensures at c.insert.ensures.items in
    put_in_place is_asked_before asked_order a xs c.keep_other_asked.new.all.items c.insert.new.self.items at c.requires.order count c.keep_other_asked.ensures.items made
