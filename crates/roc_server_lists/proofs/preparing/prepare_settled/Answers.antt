use Rattle.std.proofs.Common.{rules, sym, subst}
use Rattle.roc_server_lists.specs.declared.parts.ListParts.{ListParts}
use Rattle.roc_server_lists.specs.ListsNow.{IsNoneLeft, KeptLists}
use Rattle.roc_server_lists.specs.Inner.Finding.{AreAlike}
use Rattle.roc_server_lists.specs.Inner.Trials.{IsSettling}
use Rattle.roc_server_lists.proofs.RoomAside.{alike_kept, alike_settling, alike_sound, room_alike}
use Rattle.roc_server_lists.proofs.SettledFound.{settled_left, settled_tried, settles_from}
use Rattle.roc_server_lists.proofs.preparing.prepare_settled.Goals as goal

pub returns-clause-settled : goal.returns-clause-settled
returns-clause-settled c =
    let old = c.args.parts.now in
    let end = c.reserve.new.self in
    let x = c.in_ok-settling.settling in
    let new : ListParts = record c.find_settled.new.parts { taken = end } in
    let alike : AreAlike old new = room_alike old c.find_settled.new.parts end c.in_ok-settling.ensures.same c.reserve.ensures.components in
    let f : IsSettling new c.args.id c.args.mark x = alike_settling old new alike c.args.id c.args.mark x c.in_ok-settling.ensures.found in
    settles_from old new alike c.args.id c.args.mark x f

pub returns-clause-tried : goal.returns-clause-tried
returns-clause-tried c =
    let old = c.args.parts.now in
    let end = c.reserve.new.self in
    let x = c.in_ok-settling.settling in
    let new : ListParts = record c.find_settled.new.parts { taken = end } in
    let alike : AreAlike old new = room_alike old c.find_settled.new.parts end c.in_ok-settling.ensures.same c.reserve.ensures.components in
    let f : IsSettling new c.args.id c.args.mark x = alike_settling old new alike c.args.id c.args.mark x c.in_ok-settling.ensures.found in
    settled_tried new c.args.id c.args.mark x f (alike_sound old new alike c.requires.sound)
    (search rules)

pub returns-clause-left : goal.returns-clause-left
returns-clause-left c started none =
    let old = c.args.parts.now in
    let end = c.reserve.new.self in
    let x = c.in_ok-settling.settling in
    let new : ListParts = record c.find_settled.new.parts { taken = end } in
    let alike : AreAlike old new = room_alike old c.find_settled.new.parts end c.in_ok-settling.ensures.same c.reserve.ensures.components in
    let f : IsSettling new c.args.id c.args.mark x = alike_settling old new alike c.args.id c.args.mark x c.in_ok-settling.ensures.found in
    settled_left new c.args.id c.args.mark x f started (subst (λ (k : KeptLists). IsNoneLeft started k.lists) (sym (alike_kept old new alike)) none)

pub returns-clause-same : goal.returns-clause-same
returns-clause-same c =
    alike_kept c.args.parts.now _ (room_alike c.args.parts.now c.find_settled.new.parts c.reserve.new.self c.in_ok-settling.ensures.same c.reserve.ensures.components)

pub returns-clause-sound : goal.returns-clause-sound
returns-clause-sound c =
    alike_sound c.args.parts.now _ (room_alike c.args.parts.now c.find_settled.new.parts c.reserve.new.self c.in_ok-settling.ensures.same c.reserve.ensures.components) c.requires.sound
