use Rattle.std.proofs.Common.{sym, ap, ◌∙◌}
use Rattle.roc_growth.specs.Quiet.{messages_of}
use Rattle.roc_world.specs.Inner.Messages.{Messages}
use Rattle.roc_world.proofs.Sealings.{messages_stand}
use Rattle.roc_world.proofs.network.Network.sent.Goals as goal

pub returns : goal.returns
returns c =
    c.deref.ensures.value ∙ (sym (messages_stand c.self.inside.files.items c.self.inside.sent.items c.self.invariant.each) ∙ ap (λ (m : Messages). messages_of m.sent) c.self.view_is)
