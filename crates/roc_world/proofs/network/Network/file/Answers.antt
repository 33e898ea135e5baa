use Rattle.std.proofs.Common.{◌-◌, slice_get, refl, ap, ◌∙◌, arith}
use Rattle.roc_world.specs.Inner.Messages.{Messages}
use Rattle.roc_world.proofs.Sealings.{file_at, read_is, within_files}
use Rattle.roc_world.proofs.network.Network.file.Goals as goal

pub index-requires : goal.index-requires
index-requires c =
    let long = c.self.inside.files.ok.0 in
    let within = within_files c.self.inside.files.items c.self.inside.sent.items c.args.self.now.sent c.args.number c.self.invariant.each (ap (λ (n : Messages). n.sent) c.self.view_is) c.requires.some c.requires.sent in
    omega arith

pub returns : goal.returns
returns c m there =
    let files = c.self.inside.files.items in
    let messages = c.self.inside.sent.items in
    let i = c.args.number - 1 in
    read_is files files i c.index.result.now m.file
    (within_files files messages c.args.self.now.sent c.args.number c.self.invariant.each (ap (λ (n : Messages). n.sent) c.self.view_is) c.requires.some c.requires.sent) refl c.index.ensures
    (file_at files messages i m (ap (λ (n : Messages). slice_get n.sent i) c.self.view_is ∙ there))
