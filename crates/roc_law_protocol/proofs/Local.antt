-- A shard's store is its part of the one store
use Rattle.std.proofs.Common.{◌≡◌, ◌≢◌, ℕ, ℤ, List, [], ◌∷◌, ◌++◌, map, refl, sym, ap, ◌∙◌}
use Rattle.roc_base.specs.declared.id.TxnId.{TxnId}
use Rattle.roc_rows.specs.declared.cell.Cell.{Cell}
use Rattle.roc_rows.specs.Store.{Store, read}
use Rattle.roc_plan.specs.Groups.{Plan, inputs_of}
use Rattle.roc_whole.specs.Serial as whole
use Rattle.roc_group.specs.GroupRun.{GroupCall, call, group_run, group_uses, bound_by_run}
use Rattle.roc_law_orders.specs.Behaviour.{TxnGroup, Yield, DoesSame}
use Rattle.roc_law_orders.specs.Runs.{Stage, inputs_at, uses_at, yield_at, after_group, after_groups}
use Rattle.roc_law_orders.proofs.Stages.{after-store, after-yielded_same}
use Rattle.roc_law_log.specs.Scheme.{Scheme}
use Rattle.roc_law_protocol.specs.PlanAssumptions.{picked, called, use_of, IsSchemeOf}
use Rattle.roc_law_protocol.specs.Beginnings.{Beginning}
use Rattle.roc_law_protocol.specs.Inner.Given.{LogLaws}
use Rattle.roc_law_protocol.proofs.Means.{run_of}

abbrev yield : List ℤ → List ℤ → Yield
yield bound outs = record { bound = bound; outs = outs }

-- groups that run one after another
pub after_append : (B : _) (s : Stage) (Q T : List TxnGroup) → after_groups B s (Q ++ T) ≡ after_groups B (after_groups B s Q) T
after_append B s [] T = refl
after_append B s (r ∷ Q) T = after_append B (after_group B s r) Q T

module _ (plan : Plan) (asked : TxnId → whole.Call) (S : Scheme) (start : Beginning) (is : IsSchemeOf plan asked S) (laws : LogLaws S start.store) where
  pub call_is : (proc group : ℕ) (args inputs : List ℤ) (id : TxnId) (given : List (List ℤ)) → proc ≡ (asked id).procedure → args ≡ (asked id).arguments → inputs ≡ picked (inputs_of plan (asked id).procedure group) given
      → call proc group args inputs ≡ called plan asked (run_of id group) given
  call_is proc group args inputs id given p a v = λ i. call (p i) group (a i) (v i)

  -- what a group does on its shard's store is what it does on the one store
  module _ (shard : ℕ) (X : Stage) (r : TxnGroup) (c : GroupCall) (store : Store) (same : c ≡ called plan asked r (inputs_at S.behaviour X r)) (on : S.group_shard r (inputs_at S.behaviour X r) ≡ shard) (alike : (x : Cell) → S.cell_shard x ≡ shard → read store x ≡ read X.store x) where
    abbrev given : List (List ℤ)
    given = inputs_at S.behaviour X r

    alike_here : (x : Cell) → S.cell_shard x ≡ S.group_shard r given → read store x ≡ read X.store x
    alike_here x e = alike x (e ∙ on)

    does : DoesSame S.behaviour r given store X.store
    does = laws.same r given store X.store alike_here

    pub run_cells : (x : Cell) → S.cell_shard x ≡ shard → read (group_run plan c store).store x ≡ read (after_group S.behaviour X r).store x
    run_cells x e =
        ap (λ (c : GroupCall). read (group_run plan c store).store x) same
        ∙ ap (λ (s : Store). read s x) (sym (is.after r given store))
        ∙ laws.cells r given store X.store alike_here x (e ∙ sym on)
        ∙ ap (λ (s : Store). read s x) (sym (after-store S.behaviour X r))

    -- and it leaves the cells of other shards
    pub run_elsewhere : (x : Cell) → S.cell_shard x ≢ shard → read (group_run plan c store).store x ≡ read store x
    run_elsewhere x apart =
        let here : Stage = record { store = store; yielded = X.yielded } in
        ap (λ (c : GroupCall). read (group_run plan c store).store x) same
        ∙ ap (λ (s : Store). read s x) (sym (is.after r given store))
        ∙ ap (λ (s : Store). read s x) (sym (after-store S.behaviour here r))
        ∙ laws.elsewhere here r x (λ e. apart (e ∙ on))

    yields : yield (bound_by_run plan c store) (group_run plan c store).reply ≡ yield_at S.behaviour X r
    yields =
        ap (λ (c : GroupCall). yield (bound_by_run plan c store) (group_run plan c store).reply) same
        ∙ sym (is.yields r given store)
        ∙ does.yields

    pub run_bound : bound_by_run plan c store ≡ ((after_group S.behaviour X r).yielded r).bound
    run_bound = ap (λ (y : Yield). y.bound) (yields ∙ sym (after-yielded_same S.behaviour X r))

    pub run_outs : (group_run plan c store).reply ≡ ((after_group S.behaviour X r).yielded r).outs
    run_outs = ap (λ (y : Yield). y.outs) (yields ∙ sym (after-yielded_same S.behaviour X r))

    pub run_uses : map use_of (group_uses plan c store) ≡ uses_at S.behaviour X r
    run_uses = ap (λ (c : GroupCall). map use_of (group_uses plan c store)) same ∙ sym (is.uses r given store) ∙ does.uses
