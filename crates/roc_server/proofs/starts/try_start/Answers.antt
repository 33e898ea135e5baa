use Rattle.std.proofs.Common.{◌≡◌, None, Some, sym, ap, subst, ◌∙◌}
use Rattle.std.specs.Option.{option_copied}
use Rattle.roc_step.specs.declared.handled.Handled.TheVariants.{Done}
use Rattle.roc_step.specs.Fits.{AreGroupsOf}
use Rattle.roc_step.specs.State.{find_group, ServerState}
use Rattle.roc_server.specs.Inner.Parts.{state_behind, state_of}
use Rattle.roc_server.specs.Inner.Starts.{asked, StartTaken}
use Rattle.roc_server.proofs.PartSteps.{idle_behind, idle_can, started_idle}
use Rattle.roc_server.proofs.StartSteps.{start_refused, start_repeated, start_made}
use Rattle.roc_server.proofs.starts.try_start.Goals as goal

pub returns-in-Some-clause-step : goal.returns-in-Some-clause-step
returns-in-Some-clause-step c =
    let k = c.args.parts.now in
    let was = state_of c.args.shard k in
    let r = c.args.request in
    subst (λ (s : ServerState). StartTaken c.args.plan.now k.lists.decided was s c.args.sends.now c.args.sends.now r.id (asked r) c.in-Some.answer) (sym (idle_behind k c.requires.idle c.args.shard))
    (start_refused c.args.plan.now k.lists.decided was r.id (asked r) c.args.sends.now c.in-Some.answer (sym c.start_refusal.ensures.answer ∙ c.in-Some.is))

pub returns-in-Some-clause-fits : goal.returns-in-Some-clause-fits
returns-in-Some-clause-fits c = subst (AreGroupsOf c.args.plan.now) (sym (started_idle c.args.parts.now c.requires.idle)) c.requires.fits

pub returns-in-Some-clause-can : goal.returns-in-Some-clause-can
returns-in-Some-clause-can c = idle_can c.args.parts.now c.requires.idle c.requires.sound

pub returns-in_ok-send_startok-in-Some-find_group-clause-step : goal.returns-in_ok-send_startok-in-Some-find_group-clause-step
returns-in_ok-send_startok-in-Some-find_group-clause-step c =
    let k = c.args.parts.now in
    let was = state_of c.args.shard k in
    let r = c.args.request in
    let e = c.in-Some-find_group.earlier.now in
    let there : find_group r.id r.group k.groups.kept ≡ Some e =
    sym (ap (find_group r.id r.group) (c.started.ensures.groups ∙ c.requires.idle.groups.ran)) ∙ sym c.find_group.ensures ∙ ap option_copied c.in-Some-find_group.is in
    subst (λ (s : ServerState). StartTaken c.args.plan.now k.lists.decided was s c.args.sends.now c.send_startok.new.outbox r.id (asked r) Done) (sym (idle_behind k c.requires.idle c.args.shard))
    (start_repeated c.args.plan.now k.lists.decided was r.id (asked r) c.args.sends.now c.send_startok.new.outbox e (sym c.start_refusal.ensures.answer ∙ c.in_default.is) there
    c.in_ok-send_startok-in-Some-find_group.ensures.sent)

pub returns-in_ok-send_startok-in-Some-find_group-clause-fits : goal.returns-in_ok-send_startok-in-Some-find_group-clause-fits
returns-in_ok-send_startok-in-Some-find_group-clause-fits c = subst (AreGroupsOf c.args.plan.now) (sym (started_idle c.args.parts.now c.requires.idle)) c.requires.fits

pub returns-in_ok-send_startok-in-Some-find_group-clause-can : goal.returns-in_ok-send_startok-in-Some-find_group-clause-can
returns-in_ok-send_startok-in-Some-find_group-clause-can c = idle_can c.args.parts.now c.requires.idle c.requires.sound

pub returns-in-None-clause-step : goal.returns-in-None-clause-step
returns-in-None-clause-step c =
    let k = c.args.parts.now in
    let r = c.args.request in
    let absent : find_group r.id r.group k.groups.kept ≡ None =
    sym (ap (find_group r.id r.group) (c.started.ensures.groups ∙ c.requires.idle.groups.ran)) ∙ sym c.find_group.ensures ∙ ap option_copied c.in-None.is in
    start_made c.args.plan.now k.lists.decided (state_of c.args.shard k) r.id (asked r) c.start_new.result (state_behind c.args.shard c.start_new.new.parts) c.args.sends.now c.start_new.new.sends
    (sym c.start_refusal.ensures.answer ∙ c.in_default.is) absent c.start_new.ensures.step
