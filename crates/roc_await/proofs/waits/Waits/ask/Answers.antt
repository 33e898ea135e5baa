use Rattle.std.proofs.Common.{List, sym, subst}
use Rattle.roc_step.specs.declared.waits.OpenFetch.{OpenFetch}
use Rattle.roc_step.specs.Waits.{AreKept, with_asked}
use Rattle.roc_await.proofs.OpenFetches.{kept_asked}
use Rattle.roc_await.proofs.waits.Waits.ask.Goals as goal

pub invariant_of-self : goal.invariant_of-self
invariant_of-self c =
    let askers = c.self.inside.askers.items in
    let Asked : List OpenFetch → Type 0 = λ xs. AreKept xs askers c.put_asked-2.new.all.items in
    let Open : List OpenFetch → Type 0 = λ xs. AreKept (with_asked c.args.asked c.self.inside.asked.items) askers xs in
    subst Asked (sym c.put_asked.ensures.items)
    (subst Open (sym c.put_asked-2.ensures.items) (kept_asked c.self.inside.asked.items askers c.self.inside.fetches.items c.self.invariant c.args.asked))
