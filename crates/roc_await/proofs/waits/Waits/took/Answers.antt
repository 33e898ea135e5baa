use Rattle.std.proofs.Common.{List, sym, subst}
use Rattle.roc_step.specs.declared.waits.OpenFetch.{OpenFetch}
use Rattle.roc_step.specs.Waits.{AreKept}
use Rattle.roc_await.proofs.OpenFetches.{kept_without_fetch}
use Rattle.roc_await.proofs.waits.Waits.took.Goals as goal

pub invariant_of-self : goal.invariant_of-self
invariant_of-self c =
    let w = c.self.inside in
    let Kept : List OpenFetch → Type 0 = λ xs. AreKept w.asked.items w.askers.items xs in
    subst Kept (sym c.take_out_fetch.ensures.items) (kept_without_fetch w.asked.items w.askers.items w.fetches.items c.self.invariant c.args.id)
