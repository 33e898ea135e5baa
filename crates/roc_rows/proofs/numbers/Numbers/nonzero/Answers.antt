use Rattle.std.proofs.Common.{◌≡◌, ◌∙◌, ap, subst, rules, map, Ok}
use Rattle.std.proofs.lemmas.Iterator.{YieldsList-from_map, items_from_collect}
use Rattle.std.proofs.lemmas.Iterator.Consumers.{YieldsList-at, YieldsList-from_rest}
use Rattle.std.proofs.lemmas.List.{map-id}
use Rattle.std.specs.List.Sorted.{IsPermutation}
use Rattle.std.specs.declared.alloc.AllocError.{AllocError}
use Rattle.roc_rows.specs.Store.{entries}
use Rattle.roc_rows.proofs.Listed.{sorted_entries}
use Rattle.roc_rows.proofs.numbers.Numbers.nonzero.Goals as goal

pub returns : goal.returns
returns c =
    let es = c.self.inside.numbers.entries in
    let collected : c.in_ok-listed.listed.items ≡ map (λ p. p) es =
    items_from_collect {E = AllocError} (Ok c.in_ok-listed.listed) c.in_ok-listed.ensures.ran (YieldsList-from_map _ (λ p. p) (YieldsList-at c.map.ensures.source (YieldsList-from_rest es c.iter.ensures.rest)) c.map.ensures.closure (λ x r q k. search rules)) in
    let permuted = subst (λ xs. IsPermutation xs c.sort_unstable.new.self.items) (collected ∙ map-id es) c.sort_unstable.ensures.permutation in
    sorted_entries es _ c.iter.ensures.unique c.self.invariant permuted c.sort_unstable.ensures.sorted ∙ ap (λ h. entries h.store) c.self.view_is
