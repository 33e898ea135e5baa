use Rattle.std.proofs.Common.{option_copied, length, subst}
use Rattle.std.proofs.lemmas.Result.{IfOk-weaker}
use Rattle.roc_law_protocol.specs.Fits.{IsNode}
use Rattle.roc_two_files.specs.Sealed.{Sealed}
use Rattle.roc_world.specs.Inner.Parts.{world_of}
use Rattle.roc_world.proofs.Sealings.{sealed_there, receiver_is_here}
use Rattle.roc_world.proofs.Events.{server_comes, coord_comes}
use Rattle.roc_world.proofs.happen.deliver.Goals as goal

pub handle_at_server-requires-clause-exists : goal.handle_at_server-requires-clause-exists
handle_at_server-requires-clause-exists c =
    let w = world_of c.args.parts.now in
    let m : Sealed = record { file = c.file-file.result; message = c.message-sent.result.now } in
    subst (IsNode (length w.servers) (length w.coords)) c.in-Server.is
    (receiver_is_here (length w.servers) (length w.coords) w.sent c.args.number m c.requires.fits.sent_here
    (sealed_there w.sent c.args.number c.file-file.result c.message-sent.result.now c.requires.event.0 c.requires.event.1 c.file-file.ensures c.message-sent.ensures))

pub handle_at_coord-requires-clause-exists : goal.handle_at_coord-requires-clause-exists
handle_at_coord-requires-clause-exists c =
    let w = world_of c.args.parts.now in
    let m : Sealed = record { file = c.file-file.result; message = c.message-sent.result.now } in
    subst (IsNode (length w.servers) (length w.coords)) c.in-Coord.is
    (receiver_is_here (length w.servers) (length w.coords) w.sent c.args.number m c.requires.fits.sent_here
    (sealed_there w.sent c.args.number c.file-file.result c.message-sent.result.now c.requires.event.0 c.requires.event.1 c.file-file.ensures c.message-sent.ensures))

pub returns-in-Ok : goal.returns-in-Ok
returns-in-Ok c =
    let w = world_of c.args.parts.now in
    let some = c.requires.event.0 in
    let known = c.requires.event.1 in
    let m : Sealed = record { file = c.file-file.result; message = c.message-sent.result.now } in
    IfOk-weaker c.note_at_server.result _ _ (λ what h.
    server_comes c.args.plan.now (option_copied c.args.next) w c.args.number m some (sealed_there w.sent c.args.number c.file-file.result c.message-sent.result.now some known c.file-file.ensures c.message-sent.ensures)
    c.handle_at_server.new.servers.items c.in-Server.shard c.in-Server.is c.in-Ok.handled c.in-Ok.switched what
    c.note_delivery.new.self c.new-outbox.result c.handle_at_server.new.outbox (world_of c.note_at_server.new.parts) c.new-outbox.ensures.messages c.new-outbox.ensures.decided c.in-Ok.ensures h.0 c.note_delivery.ensures h.1)
    c.note_at_server.ensures

pub returns-in-Ok-handle_at_coord : goal.returns-in-Ok-handle_at_coord
returns-in-Ok-handle_at_coord c =
    let w = world_of c.args.parts.now in
    let some = c.requires.event.0 in
    let known = c.requires.event.1 in
    let m : Sealed = record { file = c.file-file.result; message = c.message-sent.result.now } in
    IfOk-weaker c.note_at_coord.result _ _ (λ what h.
    coord_comes c.args.plan.now (option_copied c.args.next) w c.args.number m some (sealed_there w.sent c.args.number c.file-file.result c.message-sent.result.now some known c.file-file.ensures c.message-sent.ensures)
    c.in-Coord.coord c.in-Coord.is c.in-Ok-handle_at_coord.answer c.in-Ok-handle_at_coord.switched what
    c.handle_at_coord.new.coords.items c.note_delivery-in-Ok-handle_at_coord.new.self c.new-outbox.result c.handle_at_coord.new.outbox (world_of c.note_at_coord.new.parts) c.new-outbox.ensures.messages
    c.in-Ok-handle_at_coord.ensures h.0 c.note_delivery-in-Ok-handle_at_coord.ensures h.1)
    c.note_at_coord.ensures
