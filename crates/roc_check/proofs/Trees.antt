-- Two expressions are one tree, or they are not
use Rattle.std.proofs.Common.{◌≡◌, ℕ, ℤ, Bool, true, false, refl, sym, ap, ◌∙◌, inl, inr}
use Rattle.std.proofs.lemmas.Bool.{false≢true, cases_eq}
use Rattle.std.proofs.lemmas.Bool.Decides.{Decides-int_eq}
use Rattle.std.specs.Ordering.{int_eq}
use Rattle.roc_program.specs.Program.{Expression, Number, Value, Sum, Difference, Product, Minimum, Maximum, Less, Pick}
use Rattle.roc_check.proofs.Searches.{HoldsOrNot}

same_number : (m n : ℤ) → HoldsOrNot (m ≡ n)
same_number m n = go (int_eq m n) refl
  where
    go : (t : Bool) → int_eq m n ≡ t → HoldsOrNot (m ≡ n)
    go true e = inl ((Decides-int_eq m n).0 e)
    go false e = inr (λ h. false≢true (sym e ∙ (Decides-int_eq m n).1 h))

module _ (a b : Expression) (first : (c : Expression) → HoldsOrNot (a ≡ c)) (second : (c : Expression) → HoldsOrNot (b ≡ c)) where
  two : (f : Expression → Expression → Expression) → ((c d : Expression) → f a b ≡ f c d → (a ≡ c) × (b ≡ d)) → (c d : Expression) → HoldsOrNot (f a b ≡ f c d)
  two f parts c d = go (first c) (second d)
    where
      go : HoldsOrNot (a ≡ c) → HoldsOrNot (b ≡ d) → HoldsOrNot (f a b ≡ f c d)
      go (inl e) (inl g) = inl (cc)
      go (inl e) (inr n) = inr (λ h. n (parts c d h).1)
      go (inr n) k = inr (λ h. n (parts c d h).0)

  is_sum : (e : Expression) → HoldsOrNot (Sum a b ≡ e)
  is_sum (Sum c d) = two Sum (λ x y h. (cc, cc)) c d
  is_sum e = inr (λ h. absurd (cc))

  is_difference : (e : Expression) → HoldsOrNot (Difference a b ≡ e)
  is_difference (Difference c d) = two Difference (λ x y h. (cc, cc)) c d
  is_difference e = inr (λ h. absurd (cc))

  is_product : (e : Expression) → HoldsOrNot (Product a b ≡ e)
  is_product (Product c d) = two Product (λ x y h. (cc, cc)) c d
  is_product e = inr (λ h. absurd (cc))

  is_minimum : (e : Expression) → HoldsOrNot (Minimum a b ≡ e)
  is_minimum (Minimum c d) = two Minimum (λ x y h. (cc, cc)) c d
  is_minimum e = inr (λ h. absurd (cc))

  is_maximum : (e : Expression) → HoldsOrNot (Maximum a b ≡ e)
  is_maximum (Maximum c d) = two Maximum (λ x y h. (cc, cc)) c d
  is_maximum e = inr (λ h. absurd (cc))

  is_less : (e : Expression) → HoldsOrNot (Less a b ≡ e)
  is_less (Less c d) = two Less (λ x y h. (cc, cc)) c d
  is_less e = inr (λ h. absurd (cc))

is_number : (m : ℤ) (e : Expression) → HoldsOrNot (Number m ≡ e)
is_number m (Number n) = elim (same_number m n) [ inl e ↦ inl (ap Number e) | inr never ↦ inr (λ h. never (cc)) ]
is_number m e = inr (λ h. absurd (cc))

is_value : (m : ℕ) (e : Expression) → HoldsOrNot (Value m ≡ e)
is_value m (Value n) = elim (cases_eq m n) [ inl e ↦ inl (ap Value e) | inr never ↦ inr (λ h. never (cc)) ]
is_value m e = inr (λ h. absurd (cc))

is_pick : (c a b : Expression) → ((e : Expression) → HoldsOrNot (c ≡ e))
    → ((e : Expression) → HoldsOrNot (a ≡ e)) → ((e : Expression) → HoldsOrNot (b ≡ e)) → (e : Expression) → HoldsOrNot (Pick c a b ≡ e)
is_pick c a b f g k (Pick x y z) = go (f x) (g y) (k z)
  where
    go : HoldsOrNot (c ≡ x) → HoldsOrNot (a ≡ y) → HoldsOrNot (b ≡ z) → HoldsOrNot (Pick c a b ≡ Pick x y z)
    go (inl d) (inl e) (inl h) = inl (cc)
    go (inl d) (inl e) (inr never) = inr (λ h. never (cc))
    go (inl d) (inr never) l = inr (λ h. never (cc))
    go (inr never) l m = inr (λ h. never (cc))
is_pick c a b f g k e = inr (λ h. absurd (cc))

-- of any two expressions
pub one_tree_or_not : (a e : Expression) → HoldsOrNot (a ≡ e)
one_tree_or_not (Number n) e = is_number n e
one_tree_or_not (Value n) e = is_value n e
one_tree_or_not (Sum a b) e = is_sum a b (λ c. one_tree_or_not a c) (λ c. one_tree_or_not b c) e
one_tree_or_not (Difference a b) e = is_difference a b (λ c. one_tree_or_not a c) (λ c. one_tree_or_not b c) e
one_tree_or_not (Product a b) e = is_product a b (λ c. one_tree_or_not a c) (λ c. one_tree_or_not b c) e
one_tree_or_not (Minimum a b) e = is_minimum a b (λ c. one_tree_or_not a c) (λ c. one_tree_or_not b c) e
one_tree_or_not (Maximum a b) e = is_maximum a b (λ c. one_tree_or_not a c) (λ c. one_tree_or_not b c) e
one_tree_or_not (Less a b) e = is_less a b (λ c. one_tree_or_not a c) (λ c. one_tree_or_not b c) e
one_tree_or_not (Pick c a b) e = is_pick c a b (λ x. one_tree_or_not c x) (λ x. one_tree_or_not a x) (λ x. one_tree_or_not b x) e
