use Rattle.std.proofs.Common.{cond, Some, None, sym, ap, subst, ◌∙◌}
use Rattle.std.proofs.lemmas.Result.{IfOk-weaker}
use Rattle.roc_base.specs.TxnId.{is_txn}
use Rattle.roc_sequence.specs.Places.{is_listed}
use Rattle.roc_step.specs.Carried.{carried, unknown_of}
use Rattle.roc_step.specs.Learning.{AreLearnable}
use Rattle.roc_server_news.proofs.Learnable.{carried_learnable}
use Rattle.roc_server_lists.specs.ListsNow.{over_of}
use Rattle.roc_server.specs.Inner.Parts.{state_behind, state_of}
use Rattle.roc_server.specs.Inner.Taught.{Commits}
use Rattle.roc_server.proofs.CommitSteps.{commit_refused, commit_taught}
use Rattle.roc_server.proofs.PartSteps.{idle_behind, idle_can}
use Rattle.roc_server.proofs.TriedSteps.{fits_behind}
use Rattle.roc_server.proofs.commits.try_commit.Goals as goal

pub returns-in-Some-clause-step : goal.returns-in-Some-clause-step
returns-in-Some-clause-step c =
    let k = c.args.parts.now in
    let s = state_of c.args.shard k in
    subst (λ state. Commits c.args.plan.now k.lists.decided s state c.args.sends.now c.args.sends.now c.args.id c.args.edges.now c.args.facts.now c.in-Some.answer) (sym (idle_behind k c.requires.idle c.args.shard))
    (commit_refused c.args.plan.now s k.lists.decided c.args.sends.now c.args.id c.args.edges.now c.args.facts.now c.in-Some.answer (sym (c.commit_refusal.ensures c.args.shard) ∙ c.in-Some.is))

pub returns-in-Some-clause-fits : goal.returns-in-Some-clause-fits
returns-in-Some-clause-fits c =
    let k = c.args.parts.now in
    fits_behind c.args.plan.now (over_of k.lists.tried) k.groups c.requires.sound.groups.same c.requires.idle.groups.starting c.requires.fits

pub returns-in-Some-clause-can : goal.returns-in-Some-clause-can
returns-in-Some-clause-can c = idle_can c.args.parts.now c.requires.idle c.requires.sound

pub try_lists-requires-clause-learnable : goal.try_lists-requires-clause-learnable
try_lists-requires-clause-learnable c =
    let known = c.args.parts.now.lists.kept.lists.known in
    subst (AreLearnable known) (sym (c.in_ok-news.ensures ∙ ap (λ ks. unknown_of ks (carried c.args.id c.args.edges.now c.args.facts.now)) (c.table-2.ensures.known c.requires.idle.lists)))
    (carried_learnable known c.args.id c.args.edges.now c.args.facts.now c.requires.facts)

pub returns-clause-step : goal.returns-clause-step
returns-clause-step c =
    let k = c.args.parts.now in
    let s = state_of c.args.shard k in
    IfOk-weaker c.try_lists.result _ _
    (λ answer t. commit_taught c.args.plan.now s k.lists.decided c.args.sends.now c.args.id c.args.edges.now c.args.facts.now (state_behind c.args.shard c.try_lists.new.parts) c.try_lists.new.sends c.in_ok-news.news.items
    c.if_decided-again.result answer (sym (c.commit_refusal.ensures c.args.shard) ∙ c.in_default.is)
    (c.in_ok-news.ensures ∙ ap (λ ks. unknown_of ks (carried c.args.id c.args.edges.now c.args.facts.now)) (c.table-2.ensures.known c.requires.idle.lists))
    (c.if_decided-again.ensures ∙ ap (λ ids. cond (is_listed is_txn ids c.args.id) (Some c.args.id) None) c.table.ensures.decided) t)
    c.try_lists.ensures.step
