use Rattle.std.proofs.Common.{◌≡◌, ◌∙◌, ℕ, true, false, List, Some, slice_get, get_or, refl, sym, ap}
use Rattle.std.proofs.lemmas.Bool.{false≢true}
use Rattle.std.proofs.lemmas.Option.{get_or_from_slice_get}
use Rattle.std.proofs.lemmas.Result.{on_ok_weaker}
use Rattle.roc_plan.specs.Groups.{Plan, is_immediate_of}
use Rattle.roc_rows.specs.Store.{Store}
use Rattle.roc_step.specs.declared.started.StartedGroup.{StartedGroup}
use Rattle.roc_server_groups.specs.Inner.Runs.{RunsAt, RunsIfBuffered}
use Rattle.roc_server_groups.proofs.runs.run_if_buffered.Goals as goal

-- what is lent is what stands at the index
module _ (plan : Plan) (at : ℕ) (started slice : List StartedGroup) (lent e : StartedGroup) (same : slice ≡ started) (is : lent ≡ get_or slice at lent) (stands : slice_get started at ≡ Some e) where
  tested : is_immediate_of plan lent.proc lent.group ≡ is_immediate_of plan e.proc e.group
  tested = ap (λ (x : StartedGroup). is_immediate_of plan x.proc x.group) (is ∙ ap (λ (es : List StartedGroup). get_or es at lent) same ∙ get_or_from_slice_get started at e lent stands)

  left_as_it_is : (store : Store) → true ≡ is_immediate_of plan lent.proc lent.group → RunsIfBuffered plan e at started started store store
  left_as_it_is store h = record { runs = λ b. absurd (false≢true (sym b ∙ sym tested ∙ sym h)); groups = λ b. refl; store = λ b. refl }

  runs : (new : List StartedGroup) (before after : Store) → false ≡ is_immediate_of plan lent.proc lent.group → RunsAt plan e at started new before after → RunsIfBuffered plan e at started new before after
  runs new before after h ran = record { runs = λ b. ran; groups = λ b. absurd (false≢true (h ∙ tested ∙ b)); store = λ b. absurd (false≢true (h ∙ tested ∙ b)) }

pub returns-then-is_immediate-clause-runs : goal.returns-then-is_immediate-clause-runs
returns-then-is_immediate-clause-runs c e stands =
    left_as_it_is c.args.plan.now c.args.at c.args.started.now.groups c.as_slice.result.now c.index-as_slice-at.result e c.as_slice.ensures c.index-as_slice-at.is stands c.args.rows.now.store c.if-is_immediate.ensures

pub returns-clause-runs : goal.returns-clause-runs
returns-clause-runs c =
    on_ok_weaker c.run_at.result
    (λ ran e stands.
    runs c.args.plan.now c.args.at c.args.started.now.groups c.as_slice.result.now c.index-as_slice-at.result e c.as_slice.ensures c.index-as_slice-at.is stands c.run_at.new.started.groups c.args.rows.now.store c.run_at.new.rows.store c.if-is_immediate.ensures
    (ran e stands))
    c.run_at.ensures.runs
