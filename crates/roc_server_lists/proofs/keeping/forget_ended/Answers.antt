use Rattle.std.proofs.Common.{◌∙◌, refl, sym, ap}
use Rattle.roc_server_lists.specs.ListsNow.{KeptLists}
use Rattle.roc_server_lists.specs.Inner.Finding.{AreAlike}
use Rattle.roc_server_lists.proofs.NoneOver.{no_ids, nothing_forgotten, nothing_over}
use Rattle.roc_server_lists.proofs.RoomAside.{alike_kept, alike_sound, room_alike}
use Rattle.roc_server_lists.proofs.keeping.forget_ended.Goals as goal

pub returns-then-is_empty : goal.returns-then-is_empty
returns-then-is_empty c =
    let k = c.args.parts.now in
    let none = no_ids c.args.over.now c.is_empty.result c.is_empty.ensures c.if-is_empty.true in
    let nothing = nothing_forgotten k c.args.over.now none c.requires in
    let alike : AreAlike k (record k { taken = c.forget.new.self }) = room_alike k k c.forget.new.self refl (c.forget.ensures ∙ sym (ap (λ (l : KeptLists). l.lists.taken) nothing)) in
    record {
      kept = alike_kept k (record k { taken = c.forget.new.self }) alike ∙ nothing;
      sound = alike_sound k (record k { taken = c.forget.new.self }) alike (nothing_over k c.args.over.now none c.requires);
    }
