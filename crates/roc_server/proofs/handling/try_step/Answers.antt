use Rattle.std.proofs.Common.{refl, subst}
use Rattle.roc_server_reads.specs.Views.{viewing_of}
use Rattle.roc_server.specs.Inner.Parts.{state_behind, state_of}
use Rattle.roc_server.proofs.MadeSteps.{made_for, then_fit}
use Rattle.roc_server.proofs.MessageSteps.{IsStepFor}
use Rattle.roc_server.proofs.PartsFit.{saved_state}
use Rattle.roc_server.proofs.ReadsTaken.{step_fits}
use Rattle.roc_server.proofs.handling.try_step.Goals as goal

pub answer_reads-requires-clause-taken : goal.answer_reads-requires-clause-taken
answer_reads-requires-clause-taken c =
    step_fits c.args.plan.now (state_of c.args.shard (record { rows = c.savepoint.new.self; groups = c.args.parts.now.groups; lists = c.args.parts.now.lists })) (state_behind c.args.shard c.try_message.new.parts) c.args.msg.now
    c.in_ok-answer.answer c.new-sends.result c.try_message.new.sends c.in_ok-answer.ensures.step

pub returns-clause-made : goal.returns-clause-made
returns-clause-made c =
    let plan = c.args.plan.now in
    let shard = c.args.shard in
    let msg = c.args.msg.now in
    let k = c.args.parts.now in
    let mid = c.try_message.new.parts in
    let answer = c.in_ok-answer.answer in
    let core = c.try_message.new.sends in
    let same = saved_state k (record { rows = c.savepoint.new.self; groups = k.groups; lists = k.lists }) c.requires.idle c.savepoint.ensures.saved refl refl shard in
    let step = subst (λ s. IsStepFor plan s msg (state_behind shard mid) c.new-sends.result core answer) same c.in_ok-answer.ensures.step in
    made_for plan shard mid c.in_ok-answer.ensures.sound msg answer (state_of shard k) (viewing_of c.args.views.now) c.new-sends.result core c.answer_reads.new.sends
    step c.new-sends.ensures.messages c.new-sends.ensures.decided c.new-sends.ensures.ran c.in_ok-answer.ensures.fits c.answer_reads.new.views
    (record { answer = answer; sends = c.answer_reads.new.sends; stays = c.in_ok-stays.stays }) refl c.answer_reads.ensures.same c.in_ok-stays.ensures.step
    (then_fit plan (viewing_of c.args.views.now) answer core.ran c.in_ok-stays.stays c.requires.reads c.in_ok-stays.ensures.fits)
