use Rattle.std.proofs.Common.{◌≡◌, Result, ℕ, List, sym, subst, ◌∙◌}
use Rattle.std.specs.List.{remove}
use Rattle.std.specs.List.Sorted.{IsBinarySearchResult}
use Rattle.std.specs.Ordering.{nat_cmp}
use Rattle.std.specs.Result.{MatchResult}
use Rattle.roc_world.specs.Inner.Messages.{AreNumbered}
use Rattle.roc_world.proofs.Numbers.{others, searched_for, numbered_less}
use Rattle.roc_world.proofs.network.take_out.Goals as goal

-- what the search says of the numbers
search_says : (xs slice : List ℕ) (count number : ℕ) (r q : Result ℕ ℕ) → slice ≡ xs → r ≡ q → AreNumbered count xs → IsBinarySearchResult (λ y. nat_cmp y number) slice r → MatchResult q (λ at. remove xs at ≡ others number xs) (λ at. xs ≡ others number xs)
search_says xs slice count number r q same is h found =
    subst (λ q. MatchResult q (λ at. remove xs at ≡ others number xs) (λ at. xs ≡ others number xs)) is (searched_for number xs r h.rising (subst (λ xs. IsBinarySearchResult (λ y. nat_cmp y number) xs r) same found))

pub returns-in-Ok-clause-numbered : goal.returns-in-Ok-clause-numbered
returns-in-Ok-clause-numbered c = subst (AreNumbered c.args.count) (sym c.remove.ensures.items) (numbered_less c.args.count c.args.numbers.now.items c.in-Ok.at c.requires.numbered)

pub returns-in-Ok-clause-others : goal.returns-in-Ok-clause-others
returns-in-Ok-clause-others c = c.remove.ensures.items ∙ search_says c.args.numbers.now.items c.deref.result.now c.args.count c.args.number c.binary_search.result _ c.deref.ensures.value c.in-Ok.is c.requires.numbered c.binary_search.ensures.position

pub returns-in_default-clause-others : goal.returns-in_default-clause-others
returns-in_default-clause-others c = search_says c.args.numbers.now.items c.deref.result.now c.args.count c.args.number c.binary_search.result _ c.deref.ensures.value c.in_default.is c.requires.numbered c.binary_search.ensures.position
