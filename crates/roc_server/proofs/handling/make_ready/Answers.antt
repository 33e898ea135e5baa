use Rattle.std.proofs.Common.{IfSome, IsOk, sym, subst}
use Rattle.std.proofs.lemmas.Result.{IfOk-weaker, on_ok_weaker}
use Rattle.std.specs.Option.{option_map}
use Rattle.roc_msg.specs.Outbox.{HasRoomFor}
use Rattle.roc_server.specs.Ahead.{IsMadeFor}
use Rattle.roc_server.specs.Inner.Held.{made_ahead}
use Rattle.roc_server.specs.Inner.Parts.{state_of}
use Rattle.roc_server_reads.specs.Views.{viewing_of}
use Rattle.roc_server.proofs.MadeSteps.{has_room, made_answer, room_for, room_is, room_same}
use Rattle.roc_server.proofs.handling.make_ready.Goals as goal

pub returns-in-Err-clause-again : goal.returns-in-Err-clause-again
returns-in-Err-clause-again c room =
    let found = room_is c.args.shard c.args.parts.now c.args.views.now c.args.ahead.now c.args.outbox.now c.args.msg.now c.requires.kind room in
    subst (λ done. IsOk done) c.in-Err.is (c.make_once.ensures.again (room_same c.args.ahead.now c.args.msg.now c.args.outbox.now found)).0

pub returns-in-Ok-clause-answer : goal.returns-in-Ok-clause-answer
returns-in-Ok-clause-answer c =
    let shard = c.args.shard in
    let k = c.make_once.new.parts in
    let x = c.make_once.new.views in
    let ahead = c.make_once.new.ahead in
    let was = state_of shard c.args.parts.now in
    let made : IfSome (option_map (made_ahead shard k x) ahead) (IsMadeFor c.args.plan.now was (viewing_of x)) =
    subst (λ s. IfSome (option_map (made_ahead shard k x) ahead) (IsMadeFor c.args.plan.now s (viewing_of x))) c.make_once.ensures.state c.make_once.ensures.fits.2 in
    IfOk-weaker c.make_room.result _ _ (λ answer told. made_answer c.args.plan.now shard k x ahead was (viewing_of x) c.args.msg.now answer c.in-Ok.ensures.made made told) c.make_room.ensures.answer

pub returns-in-Ok-clause-made : goal.returns-in-Ok-clause-made
returns-in-Ok-clause-made c =
    on_ok_weaker c.make_room.result (λ room. has_room c.args.shard c.make_once.new.parts c.make_once.new.views c.make_once.new.ahead c.make_room.new.outbox c.args.msg.now c.in-Ok.ensures.made room) c.make_room.ensures.room

pub returns-in-Ok-clause-again : goal.returns-in-Ok-clause-again
returns-in-Ok-clause-again c room =
    let found = room_is c.args.shard c.args.parts.now c.args.views.now c.args.ahead.now c.args.outbox.now c.args.msg.now c.requires.kind room in
    let same = (c.make_once.ensures.again (room_same c.args.ahead.now c.args.msg.now c.args.outbox.now found)).1 in
    c.make_room.ensures.succeeds (subst (λ ahead. IfSome ahead (λ made. HasRoomFor c.args.outbox.now made.outcome.sends)) (sym same) (room_for c.args.ahead.now c.args.msg.now c.args.outbox.now found.0))
