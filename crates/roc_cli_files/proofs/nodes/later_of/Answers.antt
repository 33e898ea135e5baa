use Rattle.std.proofs.Common.{◌≡◌, refl, ap, subst, ◌∙◌}
use Rattle.roc_plan.specs.Groups.{Plan}
use Rattle.roc_epoch.specs.Files.{last_plan}
use Rattle.roc_cli_files.specs.Held.{HoldsListed}
use Rattle.roc_cli_files.specs.Listed.{RequestsFail}
use Rattle.roc_cli_files.specs.NodeNames.{files_named, by_later}
use Rattle.roc_cli_files.proofs.Loading.{all_held, shard_is_lacking}
use Rattle.roc_cli_files.proofs.nodes.later_of.Goals as goal

-- the requests were read, or none were named
pub returns-in-Ok-clause-held : goal.returns-in-Ok-clause-held
returns-in-Ok-clause-held g c first grown =
    let last : c.last_plan-last.result.now ≡ last_plan c.args.nodes.plan c.args.nodes.next = c.last_plan-last.ensures ∙ ap (last_plan c.args.nodes.plan) c.as_ref.ensures.value in
    all_held _ c.args.names (record c.args.nodes { later = c.in-Ok.later }) first grown
    (subst (λ (p : Plan). HoldsListed (g.F.Files.content c.args.files.now) (files_named c.args.names).later p.program c.in-Ok.later.items) last c.in-Ok.ensures.ends) _ c.with_shard.ensures

pub returns-in-Ok-clause-fails : goal.returns-in-Ok-clause-fails
returns-in-Ok-clause-fails g c out first grown =
    let last : c.last_plan-last.result.now ≡ last_plan c.args.nodes.plan c.args.nodes.next = c.last_plan-last.ensures ∙ ap (last_plan c.args.nodes.plan) c.as_ref.ensures.value in
    shard_is_lacking _ c.args.names (record c.args.nodes { later = c.in-Ok.later }) first grown
    (subst (λ (p : Plan). HoldsListed (g.F.Files.content c.args.files.now) (files_named c.args.names).later p.program c.in-Ok.later.items) last c.in-Ok.ensures.ends) out _ c.with_shard.ensures

-- they were not
pub returns-clause-fails : goal.returns-clause-fails
returns-clause-fails g c out first grown =
    let last : c.last_plan-last.result.now ≡ last_plan c.args.nodes.plan c.args.nodes.next = c.last_plan-last.ensures ∙ ap (last_plan c.args.nodes.plan) c.as_ref.ensures.value in
    by_later _ _ _ _ _ c.in-Err.ensures.ends.0 c.in-Err.fault first grown c.in-Err.ensures.ends.1
    (subst (λ (p : Plan). RequestsFail (g.F.Files.content c.args.files.now) c.in-Err.ensures.ends.0 p.program c.in-Err.fault) last c.in-Err.ensures.ends.2) refl
