-- Rows of truth values, set one by one
use Rattle.std.proofs.Common.{◌≡◌, ◌≢◌, ◌↔◌, ℕ, zero, suc, ◌+◌, ◌<◌, Bool, true, false, IsTrue, List, length, set, refl, sym, ap, subst, ◌∙◌, ◌⊎◌, inl, inr, arith}
use Rattle.std.proofs.lemmas.Bool.{cases_eq, cases_lt, false≢true}
use Rattle.std.proofs.lemmas.List.{get_or_past, get_or-set_same, get_or-set_other, length-set}
use Rattle.std.specs.Prelude.{replicate}
use Rattle.roc_merge.specs.Inner.Tables.{holds}

pub none_held : (n x : ℕ) → holds (replicate n false) x ≡ false
none_held zero x = refl
none_held (suc n) zero = refl
none_held (suc n) (suc x) = none_held n x

-- a row holds no number past its end
pub held_within : (row : List Bool) (x : ℕ) → IsTrue (holds row x) → x < length row
held_within row x h =
    elim (cases_lt x (length row)) [ inl l ↦ l | inr past ↦ absurd (false≢true (sym (get_or_past row x false past) ∙ h)) ]

pub set_here : (row : List Bool) (n x : ℕ) (b : Bool) → n < length row → x ≡ n → holds (set row n b) x ≡ b
set_here row n x b l e = ap (holds (set row n b)) e ∙ get_or-set_same row n b false l

pub set_other : (row : List Bool) (n x : ℕ) (b : Bool) → x ≢ n → holds (set row n b) x ≡ holds row x
set_other row n x b e = get_or-set_other row n x b false e

-- a row of 16 holds exactly those of the first n numbers of which this is so
pub record IsHeld (P : ℕ → Type 0) (row : List Bool) (n : ℕ) : Type 0 where
  pub exact : (x : ℕ) → IsTrue (holds row x) ↔ ((x < n) × P x)
  pub wide : length row ≡ 16

pub held_none : (P : ℕ → Type 0) → IsHeld P (replicate 16 false) 0
held_none P = record { exact = λ x. (λ h. absurd (false≢true (sym (none_held 16 x) ∙ h)), λ h. let l = h.0 in absurd (omega arith)); wide = refl }

pub held_more : (P : ℕ → Type 0) (row : List Bool) (n : ℕ) (b : Bool) → IsHeld P row n → n < 16 → (IsTrue b ↔ P n) → IsHeld P (set row n b) (n + 1)
held_more P row n b is l this =
    let wide : length row ≡ 16 = is.wide in
    let within : n < length row = omega arith in
    record {
      exact = λ x. elim (cases_eq x n) [
        | inl e ↦ (
          λ h. (omega arith, subst P (sym e) (this.0 (sym (set_here row n x b within e) ∙ h))),
          λ h. set_here row n x b within e ∙ this.1 (subst P e h.1),
        )
        | inr other ↦ (
          λ h. (let r = (is.exact x).0 (sym (set_other row n x b other) ∙ h) in let k = r.0 in (omega arith, r.1)),
          λ h. (let k = h.0 in set_other row n x b other ∙ (is.exact x).1 (omega arith, h.1)),
        )
      ];
      wide = length-set row n b ∙ wide;
    }

-- where it is so of none but the first n
pub held_all : (P : ℕ → Type 0) (row : List Bool) (n : ℕ) → IsHeld P row n → ((x : ℕ) → P x → x < n) → (x : ℕ) → IsTrue (holds row x) ↔ P x
held_all P row n is within x = (λ h. ((is.exact x).0 h).1, λ p. (is.exact x).1 (within x p, p))

-- ---- what either of two rows holds

pub record IsUnion (one other row : List Bool) (n : ℕ) : Type 0 where
  pub exact : (x : ℕ) → IsTrue (holds row x) ↔ (IsTrue (holds one x) ⊎ ((x < n) × IsTrue (holds other x)))
  pub wide : length row ≡ 16

pub union_none : (one other : List Bool) → length one ≡ 16 → IsUnion one other one 0
union_none one other wide = record { exact = λ x. (λ h. inl h, λ h. elim h [ inl k ↦ k | inr k ↦ (let l = k.0 in absurd (omega arith)) ]); wide = wide }

pub union_more : (one other row : List Bool) (n : ℕ) → IsUnion one other row n → n < 16 → IsTrue (holds other n) → IsUnion one other (set row n true) (n + 1)
union_more one other row n is l here =
    let wide : length row ≡ 16 = is.wide in
    let within : n < length row = omega arith in
    record {
      exact = λ x. elim (cases_eq x n) [
        | inl e ↦ (λ h. inr (omega arith, ap (holds other) e ∙ here), λ h. set_here row n x true within e)
        | inr apart ↦ (
          λ h. elim ((is.exact x).0 (sym (set_other row n x true apart) ∙ h)) [ inl k ↦ inl k | inr k ↦ (let m = k.0 in inr (omega arith, k.1)) ],
          λ h. set_other row n x true apart ∙ (is.exact x).1 (elim h [ inl k ↦ inl k | inr k ↦ (let m = k.0 in inr (omega arith, k.1)) ]),
        )
      ];
      wide = length-set row n true ∙ wide;
    }

pub union_same : (one other row : List Bool) (n : ℕ) → IsUnion one other row n → holds other n ≡ false → IsUnion one other row (n + 1)
union_same one other row n is none = record {
  exact = λ x. (
    λ h. elim ((is.exact x).0 h) [ inl k ↦ inl k | inr k ↦ (let m = k.0 in inr (omega arith, k.1)) ],
    λ h. (is.exact x).1 (elim h [
      | inl k ↦ inl k
      | inr k ↦ elim (cases_eq x n) [
        | inl e ↦ absurd (false≢true (sym none ∙ ap (holds other) (sym e) ∙ k.1))
        | inr apart ↦ (let m = k.0 in inr (omega arith, k.1))
      ]
    ]),
  );
  wide = is.wide;
}

pub union_whole : (one other row : List Bool) → IsUnion one other row 16 → length other ≡ 16 → (x : ℕ) → IsTrue (holds row x) ↔ (IsTrue (holds one x) ⊎ IsTrue (holds other x))
union_whole one other row is wide x = (
  λ h. elim ((is.exact x).0 h) [ inl k ↦ inl k | inr k ↦ inr k.1 ],
  λ h. (is.exact x).1 (elim h [ inl k ↦ inl k | inr k ↦ (let l = held_within other x k in inr (omega arith, k)) ]),
)

-- a row with one more
pub set_exact : (row : List Bool) (n : ℕ) → n < length row → (x : ℕ) → IsTrue (holds (set row n true) x) ↔ ((x ≡ n) ⊎ IsTrue (holds row x))
set_exact row n l x = elim (cases_eq x n) [
  | inl e ↦ (λ h. inl e, λ h. set_here row n x true l e)
  | inr apart ↦ (λ h. inr (sym (set_other row n x true apart) ∙ h), λ h. elim h [ inl e ↦ absurd (apart e) | inr k ↦ set_other row n x true apart ∙ k ])
]
