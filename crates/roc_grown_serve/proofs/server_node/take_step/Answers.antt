use Rattle.std.proofs.Common.{refl}
use Rattle.roc_grown_node.specs.Setting.{grown_setting_of}
use Rattle.roc_grown_serve.proofs.Servers.{stepped}
use Rattle.roc_grown_serve.proofs.server_node.take_step.Goals as goal

pub returns-in-Ok-output_of-clause-leads : goal.returns-in-Ok-output_of-clause-leads
returns-in-Ok-output_of-clause-leads c = let e = c.in-Ok-output_of.ensures in
    stepped (grown_setting_of c.args.setting) c.args.server_node.now _ _ _ _ c.in-Ok.answer _ _ _ _ c.in-Ok.ensures.step c.requires.empty c.messages.ensures c.switched-switched.ensures refl
    c.count_answer.ensures e.goes e.sends
