-- Two words for membership are one where a test decides equality
use Rattle.std.proofs.Common.{◌≡◌, Bool, true, List, [], ◌∷◌, map, sym, subst, refl, inl, inr, arith}
use Rattle.std.specs.List.{list_any}
use Rattle.roc_sequence.specs.Lists.{Has}
use Rattle.roc_sequence.specs.Places.{IsListed}
use Rattle.roc_sequence.proofs.Places.{listed_head, listed_tail, listed_cases}
use Rattle.roc_sequence.proofs.Members.{has_one}
use Rattle.roc_sequence.proofs.Holds.{any_has, has_any}

module _ {A : Type 0} (is : A → A → Bool) (exact : (a b : A) → is a b ≡ true → a ≡ b) (own : (a : A) → is a a ≡ true) where
  pub listed_has : (xs : List A) (a : A) → IsListed is xs a → Has a xs
  listed_has [] a h = absurd (omega arith)
  listed_has (x ∷ xs) a h = elim (listed_cases is x xs a h) [ inl e ↦ inl (exact a x e) | inr k ↦ inr (listed_has xs a k.1) ]

  pub has_listed : (xs : List A) (a : A) → Has a xs → IsListed is xs a
  has_listed [] a h = absurd h
  has_listed (x ∷ xs) a (inl e) = subst (IsListed is (x ∷ xs)) (sym e) (listed_head is x xs (own x))
  has_listed (x ∷ xs) a (inr h) = listed_tail is x xs a (has_listed xs a h)

  -- by a test of each element
  pub any_listed : (xs : List A) (a : A) → list_any (is a) xs ≡ true → IsListed is xs a
  any_listed xs a h = let r = any_has (is a) xs h in has_listed xs a (subst (λ b. Has b xs) (sym (exact a r.0 r.2)) r.1)

  pub listed_any : (xs : List A) (a : A) → IsListed is xs a → list_any (is a) xs ≡ true
  listed_any xs a h = has_any (is a) xs a (listed_has xs a h) (own a)

  -- a list of one
  pub listed_one : (x a : A) → IsListed is (x ∷ []) a → a ≡ x
  listed_one x a h = has_one a x (listed_has (x ∷ []) a h)

  pub in_one : (x : A) → IsListed is (x ∷ []) x
  in_one x = listed_head is x [] (own x)

  -- what is listed under a key is the key of one that is there
  pub has_under : {B : Type 0} (key : B → A) (bs : List B) (a : A) → IsListed is (map key bs) a → (b : B) × Has b bs × (key b ≡ a)
  has_under key [] a h = absurd (omega arith)
  has_under key (b ∷ bs) a h =
      elim (listed_cases is (key b) (map key bs) a h) [
        | inl e ↦ (b, inl refl, sym (exact a (key b) e))
        | inr k ↦ (let r = has_under key bs a k.1 in (r.0, inr r.1, r.2))
      ]

  pub under_has : {B : Type 0} (key : B → A) (bs : List B) (b : B) → Has b bs → IsListed is (map key bs) (key b)
  under_has key [] b h = absurd h
  under_has key (c ∷ bs) b (inl e) = subst (λ v. IsListed is (map key (c ∷ bs)) (key v)) (sym e) (listed_head is (key c) (map key bs) (own (key c)))
  under_has key (c ∷ bs) b (inr h) = listed_tail is (key c) (map key bs) (key b) (under_has key bs b h)
