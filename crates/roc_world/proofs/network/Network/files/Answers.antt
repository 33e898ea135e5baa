use Rattle.std.proofs.Common.{sym, ap, ◌∙◌}
use Rattle.roc_world.specs.Reads.{files_of}
use Rattle.roc_world.specs.Inner.Messages.{Messages}
use Rattle.roc_world.proofs.Sealings.{files_stand}
use Rattle.roc_world.proofs.network.Network.files.Goals as goal

pub returns : goal.returns
returns c =
    c.deref.ensures.value ∙ (sym (files_stand c.self.inside.files.items c.self.inside.sent.items c.self.invariant.each) ∙ ap (λ (m : Messages). files_of m.sent) c.self.view_is)
