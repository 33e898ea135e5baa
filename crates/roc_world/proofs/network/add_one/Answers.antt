use Rattle.std.proofs.Common.{List, [], ◌∷◌, ◌++◌, ap, ◌∙◌, rules}
use Rattle.roc_epoch.specs.declared.file.File.{File}
use Rattle.roc_world.proofs.Sealings.{one_sealed, sealed_pushed}
use Rattle.roc_world.proofs.network.add_one.Goals as goal

pub returns-clause-sealed : goal.returns-clause-sealed
returns-clause-sealed c =
    sealed_pushed c.args.files.now.items c.push-2.new.self.items c.args.sent.now.items c.push.new.self.items c.args.undelivered.now.items c.push-3.new.self.items c.file_of-file.result _ c.len.result c.requires.sealed
    ((rw c.unwrap.ensures at c.push-2.ensures.items) ∙ ap (λ (xs : List File). xs ++ c.file_of-file.result ∷ []) c.reserve.ensures.items) c.in_ok-push.ensures.items (search rules) c.in_ok-push-2.ensures.items

pub returns-clause-sent : goal.returns-clause-sent
returns-clause-sent c =
    one_sealed c.args.files.now.items c.push-2.new.self.items c.args.sent.now.items c.push.new.self.items c.file_of-file.result _ _ c.requires.sealed.each ((rw c.unwrap.ensures at c.push-2.ensures.items) ∙ ap (λ (xs : List File). xs ++ c.file_of-file.result ∷ []) c.reserve.ensures.items)
    c.in_ok-push.ensures.items c.file_of-file.ensures
