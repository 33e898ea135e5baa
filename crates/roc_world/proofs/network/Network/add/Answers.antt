use Rattle.std.proofs.Common.{◌+◌, ◌++◌, length, sym, ap, ◌∙◌}
use Rattle.std.specs.List.{range_with_len}
use Rattle.std.proofs.lemmas.Result.{on_ok_weaker}
use Rattle.roc_two_files.specs.Sealed.{numbers_behind}
use Rattle.roc_world.specs.Inner.Messages.{Messages}
use Rattle.roc_world.proofs.Sealings.{as_many}
use Rattle.roc_world.proofs.network.Network.add.Goals as goal

pub returns-clause-undelivered : goal.returns-clause-undelivered
returns-clause-undelivered c =
    let n = length c.args.messages.items in
    let numbers = c.self.inside.undelivered.items in
    on_ok_weaker c.add_all.result
    (λ h. h
    ∙ (ap (λ k. numbers ++ range_with_len (k + 1) n) (sym (as_many c.self.inside.files.items c.self.inside.sent.items c.self.invariant.each))
    ∙ ap (λ (m : Messages). m.undelivered ++ numbers_behind m.sent n) c.self.view_is))
    c.add_all.ensures.undelivered
