use Rattle.std.proofs.Common.{◌∙◌, refl, sym, ap}
use Rattle.std.proofs.lemmas.Bool.{false≢true}
use Rattle.roc_journal.specs.declared.record.Record.{Record}
use Rattle.roc_step.specs.State.{ServerState}
use Rattle.roc_kept.proofs.Keeping.{answers_as, any_moment, comes_before, kept_behind, must_be_recorded, one_tag, stops_here, will_be_before}
use Rattle.roc_kept.proofs.kept.KeptServer.handle.Goals as goal

-- where the message was not kept
pub returns-in-Err-clause-untouched : goal.returns-in-Err-clause-untouched
returns-in-Err-clause-untouched g c = λ r h none.
    absurd (false≢true (c.in-Err.ensures.unrecorded (sym (answers_as c.step_is_one.ensures c.args.plan.now c.args.msg.now c.args.self.now.server.state c.in-Ok.answer c.in-Ok.ensures.answer r h) ∙ none)).0)

pub returns-in-Err-clause-full : goal.returns-in-Err-clause-full
returns-in-Err-clause-full g c = λ full. (
  c.in-Err.ensures.full full,
  must_be_recorded c.step_is_one.ensures c.args.plan.now c.args.msg.now c.args.self.now.server.state c.in-Ok.answer c.in-Ok.ensures.answer (λ none. false≢true (c.in-Err.ensures.unrecorded none).0),
)

pub returns-in-Err-clause-any_moment : goal.returns-in-Err-clause-any_moment
returns-in-Err-clause-any_moment g c = λ tells name tag k.
    let D = g.D.Disk in
    let added : Record = record { header = c.args.header.now; msg = c.args.msg.now } in
    let old = c.args.self.now.server in
    any_moment c.step_is_one.ensures c.args.plan.now c.args.msg.now old.state c.in-Ok.answer c.in-Ok.ensures.answer c.records_stand.ensures D c.args.disk.now c.keep.new.disk name tag old.viewing c.args.self.now.keeper c.keep.new.keeper added refl k
    (λ is. c.keep.ensures.any_moment tells is name tag k.records k.synced (one_tag D c.args.disk.now name tag c.args.header.now.tag k.records c.args.self.now.keeper c.requires.tag k.synced))
    (λ none. absurd (false≢true (c.in-Err.ensures.unrecorded none).0))
    (λ is. will_be_before c.step_is_one.ensures c.args.plan.now c.args.msg.now old.state c.in-Ok.answer c.in-Ok.ensures.answer is c.ready.new.self c.ready.new.outbox old.viewing c.ready.ensures.state c.ready.ensures.views c.in-Ok.ensures.ready c.ready.ensures.fits)
    (λ image left. g.met.D.Disk.only_now c.args.disk.now name image (c.keep.ensures.told tells) left)

-- where it was, or leaves no record
pub returns-in-Ok-keep-clause-step : goal.returns-in-Ok-keep-clause-step
returns-in-Ok-keep-clause-step g c =
    comes_before c.args.plan.now c.args.msg.now c.args.self.now.server.state c.ready.new.self.state c.args.self.now.server.viewing c.ready.new.self.viewing c.take_ready.result c.take_ready.new.self.state c.take_ready.new.self.viewing c.args.outbox.now c.ready.new.outbox
    c.take_ready.new.outbox c.ready.ensures.state c.ready.ensures.views c.ready.ensures.same (c.take_ready.ensures.step c.args.plan.now c.args.msg.now c.ready.ensures.fits c.in-Ok.ensures.ready)

pub returns-in-Ok-keep-clause-untouched : goal.returns-in-Ok-keep-clause-untouched
returns-in-Ok-keep-clause-untouched g c = λ r h none.
    let u = c.keep.ensures.unrecorded (sym (answers_as c.step_is_one.ensures c.args.plan.now c.args.msg.now c.args.self.now.server.state c.in-Ok.answer c.in-Ok.ensures.answer r h) ∙ none) in
    (u.2, u.1)

pub returns-in-Ok-keep-clause-room : goal.returns-in-Ok-keep-clause-room
returns-in-Ok-keep-clause-room g c = λ r h some long.
    c.in-Ok-keep.ensures.room (sym (answers_as c.step_is_one.ensures c.args.plan.now c.args.msg.now c.args.self.now.server.state c.in-Ok.answer c.in-Ok.ensures.answer r h) ∙ some) long

pub returns-in-Ok-keep-clause-kept : goal.returns-in-Ok-keep-clause-kept
returns-in-Ok-keep-clause-kept g c = λ tells name tag k.
    let D = g.D.Disk in
    let added : Record = record { header = c.args.header.now; msg = c.args.msg.now } in
    let old = c.args.self.now.server in
    kept_behind c.step_is_one.ensures c.args.plan.now c.args.msg.now old.state c.in-Ok.answer c.in-Ok.ensures.answer c.records_stand.ensures D c.args.disk.now c.keep.new.disk name tag old.viewing c.args.self.now.keeper c.keep.new.keeper added refl k
    (λ is. c.in-Ok-keep.ensures.kept tells is name tag k.records k.synced (one_tag D c.args.disk.now name tag c.args.header.now.tag k.records c.args.self.now.keeper c.requires.tag k.synced))
    (λ none. let u = c.keep.ensures.unrecorded none in (u.1, u.2)) c.take_ready.new.self.state c.take_ready.new.self.viewing c.take_ready.result c.args.outbox.now c.take_ready.new.outbox
    (comes_before c.args.plan.now c.args.msg.now old.state c.ready.new.self.state old.viewing c.ready.new.self.viewing c.take_ready.result c.take_ready.new.self.state c.take_ready.new.self.viewing c.args.outbox.now c.ready.new.outbox c.take_ready.new.outbox
    c.ready.ensures.state c.ready.ensures.views c.ready.ensures.same (c.take_ready.ensures.step c.args.plan.now c.args.msg.now c.ready.ensures.fits c.in-Ok.ensures.ready))
    (c.take_ready.ensures.shard ∙ ap (λ (s : ServerState). s.shard) c.ready.ensures.state)

pub returns-in-Ok-keep-clause-behind : goal.returns-in-Ok-keep-clause-behind
returns-in-Ok-keep-clause-behind g c = λ tells name tag k.
    stops_here g.D.Disk c.keep.new.disk c.args.plan.now name tag c.take_ready.new.self.state c.take_ready.new.self.viewing c.keep.new.keeper (returns-in-Ok-keep-clause-kept g c tells name tag k)

pub returns-in-Ok-keep-clause-any_moment : goal.returns-in-Ok-keep-clause-any_moment
returns-in-Ok-keep-clause-any_moment g c = λ tells name tag k.
    let D = g.D.Disk in
    let added : Record = record { header = c.args.header.now; msg = c.args.msg.now } in
    let old = c.args.self.now.server in
    any_moment c.step_is_one.ensures c.args.plan.now c.args.msg.now old.state c.in-Ok.answer c.in-Ok.ensures.answer c.records_stand.ensures D c.args.disk.now c.keep.new.disk name tag old.viewing c.args.self.now.keeper c.keep.new.keeper added refl k
    (λ is. c.keep.ensures.any_moment tells is name tag k.records k.synced (one_tag D c.args.disk.now name tag c.args.header.now.tag k.records c.args.self.now.keeper c.requires.tag k.synced))
    (λ none. let u = c.keep.ensures.unrecorded none in (u.1, u.2))
    (λ is. will_be_before c.step_is_one.ensures c.args.plan.now c.args.msg.now old.state c.in-Ok.answer c.in-Ok.ensures.answer is c.ready.new.self c.ready.new.outbox old.viewing c.ready.ensures.state c.ready.ensures.views c.in-Ok.ensures.ready c.ready.ensures.fits)
    (λ image left. g.met.D.Disk.only_now c.args.disk.now name image (c.keep.ensures.told tells) left)
