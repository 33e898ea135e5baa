use Rattle.std.proofs.Common.{true, refl, false}
use Rattle.std.proofs.lemmas.Bool.{false≢true}
use Rattle.roc_step.specs.declared.handled.Handled.{Handled}
use Rattle.roc_node.specs.Setting.{setting_of}
use Rattle.roc_node_serve.specs.declared.server_node.TurnOutput.{TurnOutput}
use Rattle.roc_node_serve.proofs.Journals.{failed_alike, hindered_at, keeps_as, step_keeps}
use Rattle.roc_node_serve.proofs.Servers.{stepped}
use Rattle.roc_node_serve.proofs.server_node.take_step.Goals as goal

pub returns-in-Err-clause-keeps : goal.returns-in-Err-clause-keeps
returns-in-Err-clause-keeps g c = let e = c.in-Err.ensures in
    keeps_as _ _ _ _ _ _ _ _ _ _ _ (failed_alike Handled TurnOutput c.in-Err.fault) refl
    (step_keeps _ _ _ _ c.args.msg.now _ _ _ false c.requires.ready e.cause e.told e.unkept e.fits e.shard e.tag e.lost (λ went. absurd (false≢true went)) e.any_moment)

pub returns-in-Err-clause-hinders : goal.returns-in-Err-clause-hinders
returns-in-Err-clause-hinders g c = let e = c.in-Err.ensures in
    hindered_at Handled TurnOutput _ _ _ _ _ _ _ c.in-Err.fault c.requires.for_core c.requires.ready.unbroken e.broken (λ untried. (e.untried untried).0) e.full

pub returns-in-Ok-output_of-clause-leads : goal.returns-in-Ok-output_of-clause-leads
returns-in-Ok-output_of-clause-leads g c = let e = c.in-Ok-output_of.ensures in
    stepped c.args.setting.logs (setting_of c.args.setting) c.args.server_node.now _ _ _ _ c.in-Ok.answer _ _ _ c.in-Ok.ensures.step c.requires.empty c.messages.ensures refl
    c.count_answer.ensures e.goes e.sends (e.log c.args.setting.plan.now.program)

pub returns-in-Ok-output_of-clause-keeps : goal.returns-in-Ok-output_of-clause-keeps
returns-in-Ok-output_of-clause-keeps g c = let e = c.in-Ok.ensures in
    step_keeps _ _ _ _ c.args.msg.now _ _ false true c.requires.ready e.cause e.told e.unkept e.fits e.shard e.tag e.lost (λ went. e.kept) e.any_moment

pub returns-in-Err-output_of-clause-keeps : goal.returns-in-Err-output_of-clause-keeps
returns-in-Err-output_of-clause-keeps g c = let e = c.in-Ok.ensures in
    step_keeps _ _ _ _ c.args.msg.now _ _ false false c.requires.ready e.cause e.told e.unkept e.fits e.shard e.tag e.lost (λ went. absurd (false≢true went)) e.any_moment
