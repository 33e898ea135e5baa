use Rattle.std.proofs.Common.{option_copied, ◌-◌, ◌∙◌, ap}
use Rattle.std.proofs.lemmas.Result.{on_ok_weaker}
use Rattle.roc_sequence.proofs.Members.{same_there}
use Rattle.roc_two_files.specs.Sealed.{Sealed}
use Rattle.roc_world.specs.Inner.Parts.{world_of}
use Rattle.roc_world.proofs.Events.{server_cut}
use Rattle.roc_world.proofs.Sealings.{sealed_there}
use Rattle.roc_world.proofs.happen.take_cut.Goals as goal

pub returns-in-Ok : goal.returns-in-Ok
returns-in-Ok c =
    let w = world_of c.args.parts.now in
    let some = c.requires.number.0 in
    let known = c.requires.number.1 in
    let m : Sealed = record { file = c.file-file.result; message = c.message-sent.result.now } in
    let there = sealed_there w.sent c.args.number c.file-file.result c.message-sent.result.now some known c.file-file.ensures c.message-sent.ensures in
    let told = c.requires.there in
    let same = same_there w.sent (c.args.number - 1) m told.0 there told.1.there in
    on_ok_weaker c.note_cut.result
    (λ h. server_cut c.args.plan.now (option_copied c.args.next) w c.args.number c.args.many m c.args.shard (record { some = some; there = there; to = ap (λ (m : Sealed). m.message.to) same ∙ told.1.to })
    c.handle_at_server.new.servers.items _ c.in-Ok.switched c.note_delivery.new.self c.new-outbox.result c.handle_at_server.new.outbox (world_of c.note_cut.new.parts)
    c.new-outbox.ensures.messages c.new-outbox.ensures.decided c.in-Ok.ensures c.note_delivery.ensures h)
    c.note_cut.ensures
