use Rattle.std.proofs.Common.{List, sym, subst}
use Rattle.roc_step.specs.declared.waits.Asker.{Asker}
use Rattle.roc_step.specs.Waits.{AreKept}
use Rattle.roc_await.proofs.OpenFetches.{kept_asker}
use Rattle.roc_await.proofs.waits.Waits.keep_asker.Goals as goal

pub invariant_of-self : goal.invariant_of-self
invariant_of-self c =
    let w = c.self.inside in
    let Kept : List Asker → Type 0 = λ xs. AreKept w.asked.items xs w.fetches.items in
    subst Kept (sym c.put_asker.ensures.items) (kept_asker w.asked.items w.askers.items w.fetches.items c.self.invariant c.args.asker)
