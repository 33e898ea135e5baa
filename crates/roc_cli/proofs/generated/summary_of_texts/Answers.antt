use Rattle.std.proofs.Common.{Err, sym, subst}
use Rattle.roc_check.specs.Checked.{IsPlanOfText, IsPlanned}
use Rattle.roc_cli.proofs.generated.summary_of_texts.Goals as goal

-- the generated workload has a plan, so there is no fault but want of memory
pub unreachable-requires : goal.unreachable-requires
unreachable-requires c =
    let has = c.workloads_have_plans.ensures.plan c.args.shards c.requires.some c.requires.few in
    subst (λ f. IsPlanned has.0 (Err f)) c.in-Err-Lang.field-0-is (c.in-Err-Lang.ensures.only has.0 (subst (λ b. IsPlanOfText b has.0) (sym c.requires.workload) has.1))

pub unreachable-requires-in-Err-Scope : goal.unreachable-requires-in-Err-Scope
unreachable-requires-in-Err-Scope c =
    let has = c.workloads_have_plans.ensures.plan c.args.shards c.requires.some c.requires.few in
    subst (λ f. IsPlanned has.0 (Err f)) c.in-Err-Scope.field-0-is (c.in-Err-Scope.ensures.only has.0 (subst (λ b. IsPlanOfText b has.0) (sym c.requires.workload) has.1))

pub unreachable-requires-in-Err-Apart : goal.unreachable-requires-in-Err-Apart
unreachable-requires-in-Err-Apart c =
    let has = c.workloads_have_plans.ensures.plan c.args.shards c.requires.some c.requires.few in
    subst (λ f. IsPlanned has.0 (Err f)) c.in-Err-Apart.field-0-is (c.in-Err-Apart.ensures.only has.0 (subst (λ b. IsPlanOfText b has.0) (sym c.requires.workload) has.1))

pub unreachable-requires-in-Err-Blocked : goal.unreachable-requires-in-Err-Blocked
unreachable-requires-in-Err-Blocked c =
    let has = c.workloads_have_plans.ensures.plan c.args.shards c.requires.some c.requires.few in
    subst (λ f. IsPlanned has.0 (Err f)) c.in-Err-Blocked.field-0-is (c.in-Err-Blocked.ensures.only has.0 (subst (λ b. IsPlanOfText b has.0) (sym c.requires.workload) has.1))
