use Rattle.std.proofs.Common.{[], ◌∷◌, refl, sym, ap, subst, ◌∙◌}
use Rattle.std.proofs.lemmas.Result.{IfOk-weaker}
use Rattle.roc_step.specs.Carried.{list_with, unknown_of}
use Rattle.roc_server_lists.specs.ListsNow.{over_of}
use Rattle.roc_server.specs.Inner.Parts.{state_behind, state_of}
use Rattle.roc_server.specs.Inner.Taught.{Knows}
use Rattle.roc_server.proofs.CommitSteps.{known_refused, known_taught}
use Rattle.roc_server.proofs.PartSteps.{idle_behind, idle_can}
use Rattle.roc_server.proofs.TriedSteps.{fits_behind}
use Rattle.roc_server.proofs.commits.try_known.Goals as goal

pub returns-in-Some-clause-step : goal.returns-in-Some-clause-step
returns-in-Some-clause-step c =
    let k = c.args.parts.now in
    let s = state_of c.args.shard k in
    subst (λ state. Knows c.args.plan.now s state c.args.sends.now c.args.sends.now c.args.id c.args.edges.now c.in-Some.answer) (sym (idle_behind k c.requires.idle c.args.shard))
    (known_refused c.args.plan.now s k.lists.decided c.args.sends.now c.args.id c.args.edges.now c.in-Some.answer (sym (c.known_refusal.ensures s refl) ∙ c.in-Some.is))

pub returns-in-Some-clause-fits : goal.returns-in-Some-clause-fits
returns-in-Some-clause-fits c =
    let k = c.args.parts.now in
    fits_behind c.args.plan.now (over_of k.lists.tried) k.groups c.requires.sound.groups.same c.requires.idle.groups.starting c.requires.fits

pub returns-in-Some-clause-can : goal.returns-in-Some-clause-can
returns-in-Some-clause-can c = idle_can c.args.parts.now c.requires.idle c.requires.sound

pub returns-clause-step : goal.returns-clause-step
returns-clause-step c =
    let k = c.args.parts.now in
    let s = state_of c.args.shard k in
    IfOk-weaker c.try_lists.result _ _
    (λ answer t. known_taught c.args.plan.now s k.lists.decided c.args.sends.now c.args.id c.args.edges.now (state_behind c.args.shard c.try_lists.new.parts) c.try_lists.new.sends c.in_ok-news.news.items
    answer (sym (c.known_refusal.ensures s refl) ∙ c.in_default.is)
    (c.in_ok-news.ensures ∙ ap (λ ks. unknown_of ks (list_with c.args.id c.args.edges.now ∷ [])) (c.table.ensures.known c.requires.idle.lists)) t)
    c.try_lists.ensures.step
