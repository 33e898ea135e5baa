use Rattle.std.proofs.Common.{◌≡◌, true, false, None, Some, IfOk, sym, ap, subst, ◌∙◌}
use Rattle.std.specs.Option.{option_copied}
use Rattle.roc_depgraph.specs.Deps.{list_of}
use Rattle.roc_step.specs.declared.handled.Handled.TheVariants.{Done}
use Rattle.roc_step.specs.declared.waits.Asker.{Asker}
use Rattle.roc_step.specs.Lists.{after_fetch}
use Rattle.roc_step.specs.State.{is_here, ServerState}
use Rattle.roc_server.specs.Inner.Parts.{state_of}
use Rattle.roc_server.specs.Inner.Shown.{ShowsStep}
use Rattle.roc_server.proofs.FetchSteps.{asked_behind, asked_can, asked_started, fetch_absent, fetch_told, fetch_waits}
use Rattle.roc_server.proofs.TriedSteps.{on_any}
use Rattle.roc_server.proofs.PartSteps.{idle_behind, idle_can, started_idle}
use Rattle.roc_server.proofs.fetches.try_fetch.Goals as goal

pub returns-then-not-is_here-clause-step : goal.returns-then-not-is_here-clause-step
returns-then-not-is_here-clause-step c =
    let k = c.args.parts.now in
    let was = state_of c.args.shard k in
    let absent : is_here c.args.id k.groups.kept ≡ false =
    sym (ap (is_here c.args.id) (c.started.ensures.groups ∙ c.requires.idle.groups.ran)) ∙ sym c.is_here.ensures ∙ c.if-not-is_here.true in
    subst (λ (s : ServerState). IfOk c.answer_absent.result (λ answer. ShowsStep (after_fetch was c.args.id c.args.asker) answer s c.args.sends.now c.answer_absent.new.sends)) (sym (idle_behind k c.requires.idle c.args.shard))
    (fetch_absent was c.args.id c.args.asker c.answer_absent.result c.args.sends.now c.answer_absent.new.sends absent c.answer_absent.ensures.answer c.answer_absent.ensures.sent)

pub returns-then-not-is_here-clause-started : goal.returns-then-not-is_here-clause-started
returns-then-not-is_here-clause-started c = on_any c.answer_absent.result (started_idle c.args.parts.now c.requires.idle)

pub returns-then-not-is_here-clause-can : goal.returns-then-not-is_here-clause-can
returns-then-not-is_here-clause-can c = on_any c.answer_absent.result (idle_can c.args.parts.now c.requires.idle c.requires.sound)

pub returns-in_ok-send_known-in-Some-clause-step : goal.returns-in_ok-send_known-in-Some-clause-step
returns-in_ok-send_known-in-Some-clause-step c =
    let k = c.args.parts.now in
    let was = state_of c.args.shard k in
    let here : is_here c.args.id k.groups.kept ≡ true =
    sym (ap (is_here c.args.id) (c.started.ensures.groups ∙ c.requires.idle.groups.ran)) ∙ sym c.is_here.ensures ∙ c.if-not-is_here.false in
    let known : list_of c.args.id k.lists.kept.lists.known ≡ Some c.in-Some.edges.now =
    sym (ap (list_of c.args.id) (c.table.ensures.known c.requires.idle.lists)) ∙ sym c.list.ensures ∙ ap option_copied c.in-Some.is in
    subst (λ (s : ServerState). ShowsStep (after_fetch was c.args.id c.args.asker) Done s c.args.sends.now c.send_known.new.outbox) (sym (idle_behind k c.requires.idle c.args.shard))
    (fetch_told was c.args.id c.args.asker c.in-Some.edges.now c.args.sends.now c.send_known.new.outbox here known c.in_ok-send_known-in-Some.ensures.sent)

pub returns-in_ok-send_known-in-Some-clause-started : goal.returns-in_ok-send_known-in-Some-clause-started
returns-in_ok-send_known-in-Some-clause-started c = started_idle c.args.parts.now c.requires.idle

pub returns-in_ok-send_known-in-Some-clause-can : goal.returns-in_ok-send_known-in-Some-clause-can
returns-in_ok-send_known-in-Some-clause-can c = idle_can c.args.parts.now c.requires.idle c.requires.sound

pub returns-in_ok-ask-in-None-clause-step : goal.returns-in_ok-ask-in-None-clause-step
returns-in_ok-ask-in-None-clause-step c =
    let k = c.args.parts.now in
    let was = state_of c.args.shard k in
    let asker : Asker = record { id = c.args.id; shard = c.args.asker } in
    let here : is_here c.args.id k.groups.kept ≡ true =
    sym (ap (is_here c.args.id) (c.started.ensures.groups ∙ c.requires.idle.groups.ran)) ∙ sym c.is_here.ensures ∙ c.if-not-is_here.false in
    let unknown : list_of c.args.id k.lists.kept.lists.known ≡ None =
    sym (ap (list_of c.args.id) (c.table.ensures.known c.requires.idle.lists)) ∙ sym c.list.ensures ∙ ap option_copied c.in-None.is in
    subst (λ (s : ServerState). ShowsStep (after_fetch was c.args.id c.args.asker) Done s c.args.sends.now c.args.sends.now)
    (asked_behind k c.requires.idle asker c.ask.new.self c.in_ok-ask-in-None.ensures.ok c.args.shard)
    (fetch_waits was c.args.id c.args.asker c.args.sends.now here unknown)

pub returns-in_ok-ask-in-None-clause-started : goal.returns-in_ok-ask-in-None-clause-started
returns-in_ok-ask-in-None-clause-started c =
    let asker : Asker = record { id = c.args.id; shard = c.args.asker } in
    asked_started c.args.parts.now c.requires.idle asker c.ask.new.self c.in_ok-ask-in-None.ensures.ok

pub returns-in_ok-ask-in-None-clause-can : goal.returns-in_ok-ask-in-None-clause-can
returns-in_ok-ask-in-None-clause-can c =
    let asker : Asker = record { id = c.args.id; shard = c.args.asker } in
    asked_can c.args.parts.now c.requires.idle asker c.ask.new.self c.in_ok-ask-in-None.ensures.ok c.requires.sound c.in_ok-ask-in-None.ensures.left
