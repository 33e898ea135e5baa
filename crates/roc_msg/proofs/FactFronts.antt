-- What travels along of lists: none, one more, or none where the next is too long
use Rattle.std.proofs.Common.{◌≡◌, ℕ, zero, suc, ◌<◌, ◌≤◌, ◌-◌, true, false, nat_le, cond, List, [], ◌∷◌, length, refl, ap, ◌∙◌, arith}
use Rattle.std.proofs.lemmas.Bool.Decides.{nat_tests}
use Rattle.roc_depgraph.specs.declared.known.KnownList.{KnownList}
use Rattle.roc_msg.specs.Facts.{front_of_facts}

pub front_nothing : (room left : ℕ) → front_of_facts room left [] ≡ []
front_nothing zero left = refl
front_nothing (suc room) left = refl

-- the next one is too long
pub front_too_long : (room left : ℕ) (x : KnownList) (xs : List KnownList) → left < length x.edges → front_of_facts room left (x ∷ xs) ≡ []
front_too_long zero left x xs h = refl
front_too_long (suc room) left x xs h =
    let long : nat_le (length x.edges) left ≡ false = grind (arith, nat_tests) in
    ap (λ b. cond b (x ∷ front_of_facts room (left - length x.edges) xs) []) long

-- the next one travels along
pub front_more : (room left : ℕ) (x : KnownList) (xs : List KnownList) → 0 < room → length x.edges ≤ left → front_of_facts room left (x ∷ xs) ≡ x ∷ front_of_facts (room - 1) (left - length x.edges) xs
front_more zero left x xs h k = absurd (omega arith)
front_more (suc room) left x xs h k =
    let fits : nat_le (length x.edges) left ≡ true = grind (arith, nat_tests) in
    let one_less : room ≡ suc room - 1 = omega arith in
    ap (λ b. cond b (x ∷ front_of_facts room (left - length x.edges) xs) []) fits
    ∙ ap (λ n. x ∷ front_of_facts n (left - length x.edges) xs) one_less
