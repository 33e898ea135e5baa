-- The laws of the order of ids of rows
use Rattle.std.proofs.Common.{◌≡◌, ℤ, List, refl, ◌∙◌}
use Rattle.std.proofs.lemmas.Map.Lookups.{CmpEqualImpliesEq}
use Rattle.std.specs.Cmp.{IsTotalOrder, int_cmp_total, Equal-is}
use Rattle.std.specs.Cmp.Lexicographic.{lists_total, lists_ties}
use Rattle.std.specs.Ordering.{int_cmp, eq_by_cmp}
use Rattle.roc_base.specs.Equality.{is_nums}
use Rattle.roc_base.specs.Equalities.{Decides-is_nums}
use Rattle.roc_base.specs.Key.{key_cmp}

pub key_cmp-total : IsTotalOrder key_cmp
key_cmp-total = lists_total int_cmp_total

pub is_nums-by_cmp : (x y : List ℤ) → is_nums x y ≡ eq_by_cmp key_cmp x y
is_nums-by_cmp x y = lists_ties int_cmp (λ a b. refl) x y

-- ids that compare alike are one
pub key_cmp-exact : CmpEqualImpliesEq key_cmp
key_cmp-exact a b h = (Decides-is_nums a b).0 (is_nums-by_cmp a b ∙ (Equal-is (key_cmp a b)).1 h)
