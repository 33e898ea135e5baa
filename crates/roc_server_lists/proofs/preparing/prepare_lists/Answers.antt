use Rattle.std.proofs.Common.{◌∙◌, refl, subst}
use Rattle.roc_server_lists.specs.declared.trial.Lesson.{Lesson}
use Rattle.roc_server_lists.specs.Inner.Finding.{Learns}
use Rattle.roc_server_lists.proofs.RoomAside.{alike_kept, alike_sound}
use Rattle.roc_server_lists.proofs.TaughtParts.{decided_is, lists_tried, none_learnt, same_ids, still_open, taken_back, taught_left, teaches, undone_alike}
use Rattle.roc_server_lists.proofs.preparing.prepare_lists.Goals as goal

pub find_with_room-requires-clause-rising : goal.find_with_room-requires-clause-rising
find_with_room-requires-clause-rising c = c.in_ok-named.ensures.ok.rising

pub find_with_room-requires-clause-same : goal.find_with_room-requires-clause-same
find_with_room-requires-clause-same c =
    let old = c.args.parts.now in
    let news = c.args.news.items in
    let named = c.in_ok-named.named in
    let l : Learns c.args.shard c.args.started.now.groups old c.learn.new.parts news named = subst (λ ns. Learns c.args.shard c.args.started.now.groups old c.learn.new.parts ns named) c.deref.ensures.value c.in_ok-named.ensures.ok in
    same_ids c.args.shard c.args.started.now.groups old c.learn.new.parts news named c.requires.sound c.requires.learnable l

pub find_with_room-requires-clause-none_over : goal.find_with_room-requires-clause-none_over
find_with_room-requires-clause-none_over c =
    let old = c.args.parts.now in
    let news = c.args.news.items in
    let named = c.in_ok-named.named in
    let l : Learns c.args.shard c.args.started.now.groups old c.learn.new.parts news named = subst (λ ns. Learns c.args.shard c.args.started.now.groups old c.learn.new.parts ns named) c.deref.ensures.value c.in_ok-named.ensures.ok in
    still_open c.args.shard c.args.started.now.groups old c.learn.new.parts news named c.requires.sound c.requires.learnable l

pub unlearn-requires : goal.unlearn-requires
unlearn-requires c =
    let old = c.args.parts.now in
    let news = c.args.news.items in
    let named = c.in_ok-named.named in
    let l : Learns c.args.shard c.args.started.now.groups old c.learn.new.parts news named = subst (λ ns. Learns c.args.shard c.args.started.now.groups old c.learn.new.parts ns named) c.deref.ensures.value c.in_ok-named.ensures.ok in
    none_learnt c.args.shard c.args.started.now.groups old c.learn.new.parts news named c.requires.sound c.requires.learnable l
    c.find_with_room.new.parts c.in-Err.ensures.same c.deref-in-Err.result.now c.deref-in-Err.ensures.value

pub returns-in-Ok-clause-taught : goal.returns-in-Ok-clause-taught
returns-in-Ok-clause-taught c =
    let old = c.args.parts.now in
    let news = c.args.news.items in
    let named = c.in_ok-named.named in
    let l : Learns c.args.shard c.args.started.now.groups old c.learn.new.parts news named = subst (λ ns. Learns c.args.shard c.args.started.now.groups old c.learn.new.parts ns named) c.deref.ensures.value c.in_ok-named.ensures.ok in
    let x : Lesson = record { news = c.args.news; found = c.in-Ok.found; over = c.in-Ok.over } in
    teaches c.args.shard c.args.started.now.groups old c.learn.new.parts news named c.requires.sound c.requires.learnable l
    c.find_with_room.new.parts c.in-Ok.ensures.same x refl c.in-Ok.ensures.finds c.requires.left c.in-Ok.ensures.over

pub returns-in-Ok-clause-tried : goal.returns-in-Ok-clause-tried
returns-in-Ok-clause-tried c =
    let old = c.args.parts.now in
    let news = c.args.news.items in
    let named = c.in_ok-named.named in
    let l : Learns c.args.shard c.args.started.now.groups old c.learn.new.parts news named = subst (λ ns. Learns c.args.shard c.args.started.now.groups old c.learn.new.parts ns named) c.deref.ensures.value c.in_ok-named.ensures.ok in
    let x : Lesson = record { news = c.args.news; found = c.in-Ok.found; over = c.in-Ok.over } in
    lists_tried c.args.shard c.args.started.now.groups old c.learn.new.parts news named c.requires.sound c.requires.learnable l
    c.find_with_room.new.parts c.in-Ok.ensures.same x refl c.in-Ok.ensures.finds c.requires.left c.in-Ok.ensures.over c.in-Ok.ensures.room

pub returns-in-Ok-clause-from : goal.returns-in-Ok-clause-from
returns-in-Ok-clause-from c =
    let old = c.args.parts.now in
    let news = c.args.news.items in
    let named = c.in_ok-named.named in
    let l : Learns c.args.shard c.args.started.now.groups old c.learn.new.parts news named = subst (λ ns. Learns c.args.shard c.args.started.now.groups old c.learn.new.parts ns named) c.deref.ensures.value c.in_ok-named.ensures.ok in
    let x : Lesson = record { news = c.args.news; found = c.in-Ok.found; over = c.in-Ok.over } in
    alike_kept old _
    (undone_alike c.args.shard c.args.started.now.groups old c.learn.new.parts news named c.requires.sound c.requires.learnable l
    c.find_with_room.new.parts c.in-Ok.ensures.same x refl c.in-Ok.ensures.finds c.requires.left c.in-Ok.ensures.over)

pub returns-in-Ok-clause-left : goal.returns-in-Ok-clause-left
returns-in-Ok-clause-left c =
    let old = c.args.parts.now in
    let news = c.args.news.items in
    let named = c.in_ok-named.named in
    let l : Learns c.args.shard c.args.started.now.groups old c.learn.new.parts news named = subst (λ ns. Learns c.args.shard c.args.started.now.groups old c.learn.new.parts ns named) c.deref.ensures.value c.in_ok-named.ensures.ok in
    let x : Lesson = record { news = c.args.news; found = c.in-Ok.found; over = c.in-Ok.over } in
    taught_left c.args.shard c.args.started.now.groups old c.learn.new.parts news named c.requires.sound c.requires.learnable l
    c.find_with_room.new.parts c.in-Ok.ensures.same x refl c.in-Ok.ensures.finds c.requires.left c.in-Ok.ensures.over

pub returns-in-Ok-clause-decided : goal.returns-in-Ok-clause-decided
returns-in-Ok-clause-decided c =
    let old = c.args.parts.now in
    let news = c.args.news.items in
    let named = c.in_ok-named.named in
    let l : Learns c.args.shard c.args.started.now.groups old c.learn.new.parts news named = subst (λ ns. Learns c.args.shard c.args.started.now.groups old c.learn.new.parts ns named) c.deref.ensures.value c.in_ok-named.ensures.ok in
    decided_is c.args.shard c.args.started.now.groups old c.learn.new.parts news named c.requires.sound c.requires.learnable l
    c.find_with_room.new.parts c.in-Ok.ensures.same

pub returns-in-Err-clause-kept : goal.returns-in-Err-clause-kept
returns-in-Err-clause-kept c =
    let old = c.args.parts.now in
    let news = c.args.news.items in
    let named = c.in_ok-named.named in
    let l : Learns c.args.shard c.args.started.now.groups old c.learn.new.parts news named = subst (λ ns. Learns c.args.shard c.args.started.now.groups old c.learn.new.parts ns named) c.deref.ensures.value c.in_ok-named.ensures.ok in
    alike_kept old _
    (taken_back c.args.shard c.args.started.now.groups old c.learn.new.parts news named c.requires.sound c.requires.learnable l
    c.find_with_room.new.parts c.in-Err.ensures.same c.deref-in-Err.result.now c.deref-in-Err.ensures.value
    c.unlearn.new.self c.unlearn.ensures.known c.unlearn.ensures.links c.unlearn.ensures.decided)

pub returns-in-Err-clause-sound : goal.returns-in-Err-clause-sound
returns-in-Err-clause-sound c =
    let old = c.args.parts.now in
    let news = c.args.news.items in
    let named = c.in_ok-named.named in
    let l : Learns c.args.shard c.args.started.now.groups old c.learn.new.parts news named = subst (λ ns. Learns c.args.shard c.args.started.now.groups old c.learn.new.parts ns named) c.deref.ensures.value c.in_ok-named.ensures.ok in
    alike_sound old _
    (taken_back c.args.shard c.args.started.now.groups old c.learn.new.parts news named c.requires.sound c.requires.learnable l
    c.find_with_room.new.parts c.in-Err.ensures.same c.deref-in-Err.result.now c.deref-in-Err.ensures.value
    c.unlearn.new.self c.unlearn.ensures.known c.unlearn.ensures.links c.unlearn.ensures.decided) c.requires.sound

pub returns-in-Err-clause-decided : goal.returns-in-Err-clause-decided
returns-in-Err-clause-decided c =
    let old = c.args.parts.now in
    let news = c.args.news.items in
    let named = c.in_ok-named.named in
    let l : Learns c.args.shard c.args.started.now.groups old c.learn.new.parts news named = subst (λ ns. Learns c.args.shard c.args.started.now.groups old c.learn.new.parts ns named) c.deref.ensures.value c.in_ok-named.ensures.ok in
    c.unlearn.ensures.decided
    ∙ decided_is c.args.shard c.args.started.now.groups old c.learn.new.parts news named c.requires.sound c.requires.learnable l
    c.find_with_room.new.parts c.in-Err.ensures.same
