-- The version has a copy of the name.
use Rattle.std.proofs.Common.{sym, ◌∙◌, subst}
use Rattle.roc_disk_memory.specs.Inner.Added.{Added}
use Rattle.roc_disk_memory.proofs.Steps.{added_by}
use Rattle.roc_disk_memory.proofs.store.add.Goals as goal

pub returns-in-Ok : goal.returns-in-Ok
returns-in-Ok c = λ yes.
    subst (λ name. Added c.args.versions.now.items c.insert.new.self.items name c.args.seen.items c.args.stable.items) c.in-Ok.ensures
    (added_by _ _ _ _ (sym c.is_ok.ensures.value ∙ yes) c.insert.ensures.items)
