use Rattle.std.proofs.Common.{◌∙◌, ◌∷◌, [], ◌++◌, map, ap}
use Rattle.roc_plan_make.specs.Inner.Built.{source_by}
use Rattle.roc_plan_make.proofs.BuiltUp.{pushed_map}
use Rattle.roc_plan_make.proofs.replies.inputs_from.Goals as goal

pub loop-name-preserved : goal.loop-name-preserved
loop-name-preserved c =
    pushed_map (source_by (map (λ row. row.items) c.args.bounds.now)) c.args.names.now c.loop-name.name-index 0 c.loop-name.inputs.items c.push.new.self.items c.loop-name-test.true
    (c.in_ok-push.ensures.items ∙ ap (λ i. c.loop-name.inputs.items ++ i ∷ []) c.source_of.ensures) c.loop-name.invariant
