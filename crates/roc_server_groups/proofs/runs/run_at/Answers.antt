-- The group that is lent is the one that stands at the index, so its run is that one's
use Rattle.std.proofs.Common.{◌≡◌, ◌∙◌, ℕ, ℤ, List, Some, slice_set, get_or, ap, subst, sym}
use Rattle.std.proofs.lemmas.Option.{get_or_from_slice_get}
use Rattle.std.proofs.lemmas.Result.{on_ok_weaker}
use Rattle.roc_sequence.proofs.Holds.{all_at}
use Rattle.roc_group.specs.GroupRun.{group_run}
use Rattle.roc_plan.specs.Groups.{Plan}
use Rattle.roc_rows.specs.Store.{Store}
use Rattle.roc_step.specs.declared.started.StartedGroup.{StartedGroup}
use Rattle.roc_step.specs.Fits.{IsCallOf}
use Rattle.roc_server_groups.specs.Inner.Runs.{RunsAt}
use Rattle.roc_step.specs.Runs.{group_call}
use Rattle.roc_server_groups.proofs.runs.run_at.Goals as goal

pub given_by-requires : goal.given_by-requires
given_by-requires c =
    let lent = c.index-as_slice-at.result in
    let is = c.index-as_slice-at.is ∙ ap (λ (es : List StartedGroup). get_or es c.args.at lent) c.as_slice.ensures in
    subst (λ e. IsCallOf c.args.plan.now (group_call e)) (sym is) (all_at (λ e. IsCallOf c.args.plan.now (group_call e)) c.args.started.now.groups c.args.at lent c.requires.fits c.requires.exists)

runs : (plan : Plan) (lent e : StartedGroup) (at : ℕ) (old new : List StartedGroup) (before after : Store) (given : List ℤ)
    → lent ≡ e → after ≡ (group_run plan (group_call lent) before).store → given ≡ (group_run plan (group_call lent) before).reply → new ≡ slice_set old at (record e { later = Some given }) → RunsAt plan e at old new before after
runs plan lent e at old new before after given same s r n = record {
  store = s ∙ ap (λ x. (group_run plan (group_call x) before).store) same;
  groups = n ∙ ap (λ xs. slice_set old at (record e { later = Some xs })) (r ∙ ap (λ x. (group_run plan (group_call x) before).reply) same);
}

pub returns-clause-runs : goal.returns-clause-runs
returns-clause-runs c =
    on_ok_weaker c.keep_given.result (λ kept e stands.
    let lent = c.index-as_slice-at.result in
    let same : lent ≡ e =
    c.index-as_slice-at.is ∙ ap (λ (es : List StartedGroup). get_or es c.args.at lent) c.as_slice.ensures ∙ get_or_from_slice_get c.args.started.now.groups c.args.at e lent stands in
    runs c.args.plan.now lent e c.args.at c.args.started.now.groups c.keep_given.new.started.groups c.args.rows.now.store c.given_by.new.rows.store c.in_ok-given.given same c.in_ok-given.ensures.store
    c.in_ok-given.ensures.given (kept e stands))
    c.keep_given.ensures.given
