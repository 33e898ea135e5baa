-- Facts of which it is known whether they hold, and what a search by them finds
use Rattle.std.proofs.Common.{◌≡◌, ◌↔◌, ℕ, zero, suc, ◌<◌, ◌≤◌, Bool, true, false, IsTrue, List, [], ◌∷◌, length, map, refl, sym, subst, ◌∙◌, ◌⊎◌, inl, inr, arith}
use Rattle.std.proofs.lemmas.Bool.{false≢true, cases_eq, cases_lt, cases_order}
use Rattle.std.specs.List.{AllByRecursion, flat_map}
use Rattle.roc_sequence.specs.Lists.{Has}
use Rattle.roc_sequence.proofs.Members.{has_map, has_flat_map}
use Rattle.roc_merge_groups.specs.Refusals.{IsUpTo}

-- a fact holds, or it does not
abbrev pub HoldsOrNot : Type 0 → Type 0
HoldsOrNot P = P ⊎ (¬ P)

pub by_test : (t : Bool) → HoldsOrNot (IsTrue t)
by_test true = inl refl
by_test false = inr (λ h. false≢true h)

pub is_less : (a b : ℕ) → HoldsOrNot (a < b)
is_less a b = elim (cases_lt a b) [ inl l ↦ inl l | inr past ↦ inr (λ l. absurd (omega arith)) ]

pub both : (P Q : Type 0) → HoldsOrNot P → HoldsOrNot Q → HoldsOrNot (P × Q)
both P Q (inl p) (inl q) = inl (p, q)
both P Q (inl p) (inr n) = inr (λ h. n h.1)
both P Q (inr n) d = inr (λ h. n h.0)

pub either : (P Q : Type 0) → HoldsOrNot P → HoldsOrNot Q → HoldsOrNot (P ⊎ Q)
either P Q (inl p) d = inl (inl p)
either P Q (inr n) (inl q) = inl (inr q)
either P Q (inr n) (inr m) = inr (λ h. elim h [ inl p ↦ n p | inr q ↦ m q ])

pub not_so : (P : Type 0) → HoldsOrNot P → HoldsOrNot (¬ P)
not_so P (inl p) = inr (λ n. n p)
not_so P (inr n) = inl n

-- of two facts that follow from each other, where it is known of the one
pub along : (P Q : Type 0) → (P → Q) → (Q → P) → HoldsOrNot P → HoldsOrNot Q
along P Q f g (inl p) = inl (f p)
along P Q f g (inr n) = inr (λ q. n (g q))

pub each_of : {A : Type 0} (P : A → Type 0) → ((a : A) → HoldsOrNot (P a)) → (xs : List A) → HoldsOrNot (AllByRecursion P xs)
each_of P d [] = inl tt
each_of P d (x ∷ xs) = both (P x) (AllByRecursion P xs) (d x) (each_of P d xs)

abbrev pub test_of : (P : Type 0) → HoldsOrNot P → Bool
test_of P (inl p) = true
test_of P (inr n) = false

-- the test passes exactly where the fact holds
pub test_tells : (P : Type 0) (d : HoldsOrNot P) → IsTrue (test_of P d) ↔ P
test_tells P (inl p) = (λ h. p, λ p. refl)
test_tells P (inr n) = (λ h. absurd (false≢true h), λ p. absurd (n p))

-- ---- numbers

-- the least number of which it holds, or none below the bound is so
pub least_below : (P : ℕ → Type 0) → ((n : ℕ) → HoldsOrNot (P n)) → (bound : ℕ) → ((m : ℕ) × P m × ((k : ℕ) → P k → k < m → ⊥)) ⊎ ((k : ℕ) → P k → k < bound → ⊥)
least_below P d zero = inr (λ k h l. absurd (omega arith))
least_below P d (suc n) = elim (least_below P d n) [
  | inl f ↦ inl f
  | inr none ↦ elim (d n) [
    | inl h ↦ inl (n, h, none)
    | inr never ↦ inr (λ k h l. elim (cases_eq k n) [ inl e ↦ never (subst P e h) | inr apart ↦ none k h (omega arith) ])
  ]
]

-- whether there is one, where all are below a bound
pub some_number : (P : ℕ → Type 0) → ((n : ℕ) → HoldsOrNot (P n)) → (bound : ℕ) → ((n : ℕ) → P n → n < bound) → HoldsOrNot ((n : ℕ) × P n)
some_number P d bound below = elim (least_below P d bound) [
  | inl f ↦ inl (f.0, f.1)
  | inr none ↦ inr (λ h. none h.0 h.1 (below h.0 h.1))
]

-- ---- lists of numbers

-- so many numbers below a bound
abbrev pub IsWithin : (count bound : ℕ) → List ℕ → Type 0
IsWithin zero bound [] = Unit {0}
IsWithin zero bound (x ∷ xs) = ⊥
IsWithin (suc n) bound [] = ⊥
IsWithin (suc n) bound (x ∷ xs) = (x < bound) × IsWithin n bound xs

-- it holds of this list, and of none that stands before it
pub record IsLeastOf (P : List ℕ → Type 0) (xs : List ℕ) : Type 0 where
  pub is : P xs
  pub least : (ys : List ℕ) → P ys → IsUpTo xs ys

-- the least list of which it holds, or none
pub least_list : (count bound : ℕ) (P : List ℕ → Type 0) → ((xs : List ℕ) → HoldsOrNot (P xs)) → ((xs : List ℕ) → P xs → IsWithin count bound xs)
    → ((xs : List ℕ) × IsLeastOf P xs) ⊎ ((xs : List ℕ) → P xs → ⊥)
least_list zero bound P d within = go (d [])
  where
    none : ((h : P []) → ⊥) → (xs : List ℕ) → P xs → ⊥
    none never [] h = never h
    none never (x ∷ xs) h = within (x ∷ xs) h

    go : HoldsOrNot (P []) → ((xs : List ℕ) × IsLeastOf P xs) ⊎ ((xs : List ℕ) → P xs → ⊥)
    go (inl h) = inl ([], record { is = h; least = λ ys k. tt })
    go (inr never) = inr (none never)
least_list (suc n) bound P d within = go (λ k. least_list n bound (λ ys. P (k ∷ ys)) (λ ys. d (k ∷ ys)) (λ ys h. (within (k ∷ ys) h).1))
  where
    go : ((k : ℕ) → ((xs : List ℕ) × IsLeastOf (λ ys. P (k ∷ ys)) xs) ⊎ ((xs : List ℕ) → P (k ∷ xs) → ⊥))
        → ((xs : List ℕ) × IsLeastOf P xs) ⊎ ((xs : List ℕ) → P xs → ⊥)
    go behind = elim (least_below (λ k. (xs : List ℕ) × IsLeastOf (λ ys. P (k ∷ ys)) xs) known bound) [
      | inl f ↦ inl (f.0 ∷ f.1.0, record { is = f.1.1.is; least = least f.0 f.1.0 f.1.1 f.2 })
      | inr none ↦ inr (nothing none)
    ]
      where
        known : (k : ℕ) → HoldsOrNot ((xs : List ℕ) × IsLeastOf (λ ys. P (k ∷ ys)) xs)
        known k = elim (behind k) [ inl f ↦ inl f | inr none ↦ inr (λ f. none f.0 f.1.is) ]

        has : (y : ℕ) (ys : List ℕ) → P (y ∷ ys) → (xs : List ℕ) × IsLeastOf (λ zs. P (y ∷ zs)) xs
        has y ys h = elim (behind y) [ inl f ↦ f | inr none ↦ absurd (none ys h) ]

        least : (m : ℕ) (xs : List ℕ) → IsLeastOf (λ zs. P (m ∷ zs)) xs → ((k : ℕ) → ((zs : List ℕ) × IsLeastOf (λ ys. P (k ∷ ys)) zs) → k < m → ⊥)
            → (ys : List ℕ) → P ys → IsUpTo (m ∷ xs) ys
        least m xs is first [] h = absurd (within [] h)
        least m xs is first (y ∷ ys) h = elim (cases_order y m) [
          | inl e ↦ inr (sym e, is.least ys (subst (λ k. P (k ∷ ys)) e h))
          | inr o ↦ elim o [ inl l ↦ absurd (first y (has y ys h) l) | inr l ↦ inl l ]
        ]

        nothing : ((k : ℕ) → ((zs : List ℕ) × IsLeastOf (λ ys. P (k ∷ ys)) zs) → k < bound → ⊥) → (xs : List ℕ) → P xs → ⊥
        nothing none [] h = within [] h
        nothing none (x ∷ xs) h = none x (has x xs h) (within (x ∷ xs) h).0

-- ---- the best of a list

module _ {A : Type 0} (is_better : A → A → Bool) (swap : (a b : A) → is_better a b ≡ true → is_better b a ≡ false)
    (between : (a b c : A) → is_better a c ≡ true → is_better b c ≡ false → is_better a b ≡ true) where
  -- it holds of this one, and none of the list of which it holds is better
  pub record IsBestOf (P : A → Type 0) (xs : List A) (a : A) : Type 0 where
    pub is : P a
    pub best : (b : A) → Has b xs → P b → is_better b a ≡ false

  not_itself : (a : A) → is_better a a ≡ false
  not_itself a = go (is_better a a) refl
    where
      go : (t : Bool) → is_better a a ≡ t → is_better a a ≡ false
      go true e = swap a a e
      go false e = e

  -- one of those of which it holds, such that none of these is better
  pub best_of : (P : A → Type 0) → ((a : A) → HoldsOrNot (P a)) → (xs : List A) → ((a : A) × IsBestOf P xs a) ⊎ ((a : A) → Has a xs → P a → ⊥)
  best_of P d [] = inr (λ a h p. h)
  best_of P d (x ∷ xs) = go (d x) (best_of P d xs)
    where
      -- none that is better than x is better than what x is better than
      worse : (c b : A) → is_better x c ≡ true → is_better b c ≡ false → (t : Bool) → is_better b x ≡ t → is_better b x ≡ false
      worse c b h k true e = absurd (false≢true (sym (swap x b (between x b c h k)) ∙ e))
      worse c b h k false e = e

      chosen : (c : A) → P x → IsBestOf P xs c → (t : Bool) → is_better x c ≡ t → (a : A) × IsBestOf P (x ∷ xs) a
      chosen c p r true e = (
        x,
        record {
          is = p;
          best = λ b h q. elim h [
            | inl f ↦ subst (λ y. is_better y x ≡ false) (sym f) (not_itself x)
            | inr k ↦ worse c b e (r.best b k q) (is_better b x) refl
          ];
        },
      )
      chosen c p r false e = (
        c,
        record {
          is = r.is;
          best = λ b h q. elim h [ inl f ↦ subst (λ y. is_better y c ≡ false) (sym f) e | inr k ↦ r.best b k q ];
        },
      )

      go : HoldsOrNot (P x) → (((a : A) × IsBestOf P xs a) ⊎ ((a : A) → Has a xs → P a → ⊥)) → ((a : A) × IsBestOf P (x ∷ xs) a) ⊎ ((a : A) → Has a (x ∷ xs) → P a → ⊥)
      go (inl p) (inl f) = inl (chosen f.0 p f.1 (is_better x f.0) refl)
      go (inl p) (inr none) = inl (
        x,
        record {
          is = p;
          best = λ b h q. elim h [ inl f ↦ subst (λ y. is_better y x ≡ false) (sym f) (not_itself x) | inr k ↦ absurd (none b k q) ];
        },
      )
      go (inr never) (inl f) = inl (f.0, record { is = f.1.is; best = λ b h q. elim h [ inl e ↦ absurd (never (subst P e q)) | inr k ↦ f.1.best b k q ] })
      go (inr never) (inr none) = inr (λ a h p. elim h [ inl e ↦ never (subst P e p) | inr k ↦ none a k p ])

-- ---- all lists up to a length

pub lists_of : {A : Type 0} → List A → ℕ → List (List A)
lists_of letters zero = [] ∷ []
lists_of letters (suc n) = [] ∷ flat_map (λ x. map (λ xs. x ∷ xs) (lists_of letters n)) letters

pub has_list : {A : Type 0} (letters : List A) (n : ℕ) (xs : List A) → length xs ≤ n → ((a : A) → Has a xs → Has a letters) → Has xs (lists_of letters n)
unfolding lists_of
has_list letters zero [] l h = inl refl
has_list letters zero (x ∷ xs) l h = absurd (omega arith)
has_list letters (suc n) [] l h = inl refl
has_list letters (suc n) (x ∷ xs) l h =
    inr (has_flat_map (λ y. map (λ ys. y ∷ ys) (lists_of letters n)) (x ∷ xs) x letters (h x (inl refl))
    (has_map (λ ys. x ∷ ys) xs (lists_of letters n) (has_list letters n xs (omega arith) (λ a k. h a (inr k)))))
