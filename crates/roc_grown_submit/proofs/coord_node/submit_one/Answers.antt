-- No name, no call. A call's step tells what it submits; one that is refused changes nothing. All leave a coordinator that fits
use Rattle.std.proofs.Common.{rules, refl, ap, ◌∙◌}
use Rattle.roc_epoch.specs.Files.{own_plan}
use Rattle.std.specs.Prelude.{Some}
use Rattle.roc_grown_submit.proofs.Gathered.{refuses_nameless, submits_call, refuses}
use Rattle.roc_grown_submit.proofs.coord_node.submit_one.Goals as goal

pub returns-in-None-clause-submits : goal.returns-in-None-clause-submits
returns-in-None-clause-submits c =
    refuses_nameless _ _ _ _ c.own_plan-own.result.now c.as_bytes.result.now (c.own_plan-own.ensures ∙ ap (own_plan c.args.setting.plan.now (Some c.args.setting.next.now)) c.switched.ensures) c.as_bytes.ensures c.in-None.ensures

pub returns-in_ok-append-in-Ok-clause-submits : goal.returns-in_ok-append-in-Ok-clause-submits
returns-in_ok-append-in-Ok-clause-submits c =
    submits_call _ _ c.in-Some.proc c.in-Ok.id _ _ _ _ _ _ c.own_plan-own.result.now c.as_bytes.result.now c.as_slice.result.now
    (c.own_plan-own.ensures ∙ ap (own_plan c.args.setting.plan.now (Some c.args.setting.next.now)) c.switched.ensures) c.as_bytes.ensures c.in-Some.ensures c.as_slice.ensures (c.in-Ok.ensures.step refl) (search rules)

pub returns-in-Err-clause-submits : goal.returns-in-Err-clause-submits
returns-in-Err-clause-submits c =
    refuses c.refused.result _ _ c.in-Some.proc c.in-Err.fault _ _ _ _ _ c.own_plan-own.result.now c.as_bytes.result.now c.as_slice.result.now
    (c.own_plan-own.ensures ∙ ap (own_plan c.args.setting.plan.now (Some c.args.setting.next.now)) c.switched.ensures) c.as_bytes.ensures c.in-Some.ensures c.as_slice.ensures c.refused.ensures.is c.refused.ensures.refuses c.in-Err.ensures.step
