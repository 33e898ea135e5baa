-- Bits of sets that are kept as words
use Rattle.std.proofs.Common.{◌≡◌, ◌≢◌, ℕ, zero, suc, ◌+◌, ◌-◌, ◌*◌, ◌/◌, ◌%◌, ◌^◌, ◌<◌, ◌≤◌, min, max, true, false, ◌||◌, List, [], ◌∷◌, ◌++◌, length, get_or, set, replicate}
use Rattle.std.proofs.Common.{eqb, nat_eq, bit_and, bit_or, refl, sym, ap, ap₂, ◌∙◌, subst, inl, inr, arith, w64, eq-eqb, eqb-true, ne_eqb}
use Rattle.std.proofs.lemmas.Bool.{cases_eq, cases_lt, eqb-false}
use Rattle.std.proofs.lemmas.List.{length-set, get_or-set_same, get_or-set_other, get_or_past}
use Rattle.std.proofs.lemmas.Nat.{le_or_l}
use Rattle.std.proofs.lemmas.Nat.Bits.{bit_at_or, bit_at_and, bit_at_not, bit_at-zero, bit_at-lt, bit_at_set_same, bit_at_set_other, bit_at-trailing_zeros}
use Rattle.std.specs.Int.{bit_at as digit_at, bit_not, trailing_zeros}
use Rattle.std.specs.Int.Bits.{or_zero_r}
use Rattle.roc_sequence.specs.Lists.{Has}
use Rattle.roc_sequence.specs.Places.{is_listed}
use Rattle.roc_sequence.proofs.Holds.{same_tests}
use Rattle.roc_sequence.proofs.Members.{has_left, has_right, has_more}
use Rattle.roc_server_reach.specs.Bits.{row_bit}
use Rattle.roc_server_reach.specs.Inner.Words.{HasAllBits, IsBitPut, IsNext, IsSetOf, room}
use Rattle.roc_server_reach.proofs.Numbers.{named_has, has_named}

abbrev pub digit_in : (words : List ℕ) → ℕ → ℕ
digit_in words m = digit_at (get_or words (m / 64) 0) (m % 64)

-- a word with the bit of a number
abbrev pub word_with : (word at : ℕ) → ℕ
word_with word at = bit_or word (1 * 2 ^ (at % 64) % 2 ^ 64)

-- of a word of one set the bits that the other does not have
abbrev pub left_at : (met done : List ℕ) → ℕ → ℕ
left_at met done k = bit_and (get_or met k 0) (bit_not w64 (get_or done k 0))

-- ---- a bit and its digit

zero_digit : (d : ℕ) → d < 2 → (d ≡ 1 → ⊥) → d ≡ 0
zero_digit d low other = omega arith

pub not_both : (d : ℕ) → d ≡ 0 → d ≡ 1 → ⊥
not_both d e f = omega arith

pub digit_true : (words : List ℕ) (m : ℕ) → digit_in words m ≡ 1 → row_bit words m ≡ true
unfolding row_bit
digit_true words m e = eq-eqb (digit_in words m) 1 e

pub true_digit : (words : List ℕ) (m : ℕ) → row_bit words m ≡ true → digit_in words m ≡ 1
unfolding row_bit
true_digit words m e = eqb-true (digit_in words m) 1 e

pub digit_false : (words : List ℕ) (m : ℕ) → digit_in words m ≡ 0 → row_bit words m ≡ false
unfolding row_bit
digit_false words m e = ne_eqb (digit_in words m) 1 (λ f. not_both (digit_in words m) e f)

pub false_digit : (words : List ℕ) (m : ℕ) → row_bit words m ≡ false → digit_in words m ≡ 0
unfolding row_bit
false_digit words m e =
    zero_digit (digit_in words m) (bit_at-lt (get_or words (m / 64) 0) (m % 64)) (eqb-false (digit_in words m) 1 e)

same_digit : (old new : List ℕ) (m : ℕ) → digit_in new m ≡ digit_in old m → row_bit new m ≡ row_bit old m
unfolding row_bit
same_digit old new m e = ap (λ d. eqb d 1) e

pub empty_bit : (m : ℕ) → row_bit [] m ≡ false
empty_bit m = digit_false [] m (bit_at-zero (m % 64))

-- ---- one word changes

own_digit : (words : List ℕ) (at w : ℕ) → at / 64 < length words → digit_at (get_or (set words (at / 64) w) (at / 64) 0) (at % 64) ≡ digit_at w (at % 64)
own_digit words at w within = ap (λ v. digit_at v (at % 64)) (get_or-set_same words (at / 64) w 0 within)

other_bits : (words : List ℕ) (at w : ℕ) → at / 64 < length words
    → ((i : ℕ) → i < 64 → i ≢ at % 64 → digit_at w i ≡ digit_at (get_or words (at / 64) 0) i)
    → (m : ℕ) → m ≢ at → row_bit (set words (at / 64) w) m ≡ row_bit words m
other_bits words at w within others m apart =
    same_digit words (set words (at / 64) w) m (elim (cases_eq (m / 64) (at / 64)) [
      | inl same ↦
          ap (λ k. digit_at (get_or (set words (at / 64) w) k 0) (m % 64)) same
          ∙ (ap (λ v. digit_at v (m % 64)) (get_or-set_same words (at / 64) w 0 within)
          ∙ (others (m % 64) (omega arith) (λ e. apart (omega arith)) ∙ ap (λ k. digit_at (get_or words k 0) (m % 64)) (sym same)))
      | inr other ↦ ap (λ v. digit_at v (m % 64)) (get_or-set_other words (at / 64) (m / 64) w 0 other)
    ])

module _ (words : List ℕ) (at : ℕ) (within : at / 64 < length words) where
  small : at % 64 < 64
  small = omega arith

  pub bit_put : IsBitPut at words (set words (at / 64) (word_with (get_or words (at / 64) 0) at))
  bit_put =
      let word : ℕ = get_or words (at / 64) 0 in
      let w : ℕ = word_with word at in
      record {
        each = length-set words (at / 64) w;
        own = digit_true (set words (at / 64) w) at (own_digit words at w within ∙ bit_at_set_same w64 word (at % 64) small);
        others = other_bits words at w within (λ i low apart. bit_at_set_other w64 word (at % 64) small i apart);
      }

-- ---- a set that is filled

room_set : (words : List ℕ) (i w : ℕ) → i < length words → get_or words i 0 < w → get_or words i 0 < 2 ^ 64 → room (set words i w) < room words
room_set [] i w h low few = absurd (omega arith)
room_set (x ∷ xs) zero w h low few = omega arith
room_set (x ∷ xs) (suc i) w h low few = let less : room (set xs i w) < room xs = room_set xs i w (omega arith) low few in omega arith

more_with_bit : (word k : ℕ) → k < 64 → digit_at word k ≡ 0 → word < bit_or word (1 * 2 ^ k % 2 ^ 64)
more_with_bit word k low none =
    let le : word ≤ bit_or word (1 * 2 ^ k % 2 ^ 64) = le_or_l word (1 * 2 ^ k % 2 ^ 64) in
    elim (cases_eq word (bit_or word (1 * 2 ^ k % 2 ^ 64))) [
      | inl same ↦ absurd (not_both (digit_at word k) none (ap (λ v. digit_at v k) same ∙ bit_at_set_same w64 word k low))
      | inr other ↦ omega arith
    ]

pub room_put : (words : List ℕ) (at : ℕ) → at / 64 < length words → get_or words (at / 64) 0 < 2 ^ 64 → row_bit words at ≡ false
    → room (set words (at / 64) (word_with (get_or words (at / 64) 0) at)) < room words
room_put words at within few lacks =
    room_set words (at / 64) (word_with (get_or words (at / 64) 0) at) within
    (more_with_bit (get_or words (at / 64) 0) (at % 64) (omega arith) (false_digit words at lacks)) few

-- with one more number
pub set_more : (names : List ℕ) (at : ℕ) (old new : List ℕ) → IsSetOf names old → IsBitPut at old new → IsSetOf (names ++ at ∷ []) new
set_more names at old new is p m =
    same_tests (row_bit new m) (is_listed nat_eq (names ++ at ∷ []) m)
    (λ h. has_named (names ++ at ∷ []) m (elim (cases_eq m at) [
      | inl e ↦ subst (λ v. Has v (names ++ at ∷ [])) (sym e) (has_right at names (at ∷ []) (inl refl))
      | inr apart ↦ has_left m names (at ∷ []) (named_has names m (sym (is m) ∙ (sym (p.others m apart) ∙ h)))
    ]))
    (λ h. elim (cases_eq m at) [
      | inl e ↦ ap (row_bit new) e ∙ p.own
      | inr apart ↦ elim (has_more m at names (named_has (names ++ at ∷ []) m h)) [
        | inl k ↦ p.others m apart ∙ (is m ∙ has_named names m k)
        | inr e ↦ absurd (apart e)
      ]
    ])

-- a set in which there is nothing
zero_word : (n k : ℕ) → ◌≡◌ {A = ℕ} (get_or (replicate n 0) k 0) 0
zero_word zero k = refl
zero_word (suc n) zero = refl
zero_word (suc n) (suc k) = zero_word n k

pub zeros_none : (words : List ℕ) (n : ℕ) → words ≡ replicate n 0 → (m : ℕ) → row_bit words m ≡ false
zeros_none words n e m = ap (λ ws. row_bit ws m) e ∙ digit_false (replicate n 0) m (ap (λ v. digit_at v (m % 64)) (zero_word n (m / 64)) ∙ bit_at-zero (m % 64))

-- ---- two sets

either_one : (a b : ℕ) → a < 2 → b < 2 → eqb (max a b) 1 ≡ (eqb a 1 || eqb b 1)
either_one zero zero h k = refl
either_one zero (suc zero) h k = refl
either_one zero (suc (suc b)) h k = absurd (omega arith)
either_one (suc zero) zero h k = refl
either_one (suc zero) (suc zero) h k = refl
either_one (suc zero) (suc (suc b)) h k = absurd (omega arith)
either_one (suc (suc a)) b h k = absurd (omega arith)

words_joined : (old added new : List ℕ)
    → ((k : ℕ) → k < length added → get_or new k 0 ≡ bit_or (get_or old k 0) (get_or added k 0))
    → ((k : ℕ) → length added ≤ k → get_or new k 0 ≡ get_or old k 0)
    → (k : ℕ) → get_or new k 0 ≡ bit_or (get_or old k 0) (get_or added k 0)
words_joined old added new front rest k =
    elim (cases_lt k (length added)) [
      | inl l ↦ front k l
      | inr l ↦ rest k l ∙ sym (ap (bit_or (get_or old k 0)) (get_or_past added k 0 l) ∙ or_zero_r (get_or old k 0))
    ]

pub joined : (old added new : List ℕ)
    → ((k : ℕ) → k < length added → get_or new k 0 ≡ bit_or (get_or old k 0) (get_or added k 0))
    → ((k : ℕ) → length added ≤ k → get_or new k 0 ≡ get_or old k 0)
    → (m : ℕ) → row_bit new m ≡ (row_bit old m || row_bit added m)
unfolding row_bit
joined old added new front rest m =
    ap (λ v. eqb (digit_at v (m % 64)) 1) (words_joined old added new front rest (m / 64))
    ∙ (ap (λ d. eqb d 1) (bit_at_or (get_or old (m / 64) 0) (get_or added (m / 64) 0) (m % 64))
    ∙ either_one (digit_in old m) (digit_at (get_or added (m / 64) 0) (m % 64)) (bit_at-lt (get_or old (m / 64) 0) (m % 64)) (bit_at-lt (get_or added (m / 64) 0) (m % 64)))

-- of those of one set that another does not have
pub left_digit : (a b i : ℕ) → b < 2 ^ 64 → i < 64 → digit_at (bit_and a (bit_not w64 b)) i ≡ min (digit_at a i) (1 - digit_at b i)
left_digit a b i few low = bit_at_and a (bit_not w64 b) i ∙ ap (min (digit_at a i)) (bit_at_not w64 b i few low)

one_left : (d e : ℕ) → d < 2 → min d (1 - e) ≡ 1 → (d ≡ 1) × (e ≡ 0)
one_left d e low h = (omega arith, omega arith)

none_left : (d e : ℕ) → e < 2 → d ≡ 1 → min d (1 - e) ≡ 0 → e ≡ 1
none_left d e low one h = omega arith

-- at the place of a word and a digit in it
pub digit_there : (words : List ℕ) (place i : ℕ) → i < 64 → digit_at (get_or words ((place * 64 + i) / 64) 0) ((place * 64 + i) % 64) ≡ digit_at (get_or words place 0) i
digit_there words place i low =
    let row : (place * 64 + i) / 64 ≡ place = omega arith in
    let column : (place * 64 + i) % 64 ≡ i = omega arith in
    ap₂ (λ (k j : ℕ). digit_at (get_or words k 0) j) row column

next_at : (met done : List ℕ) (place i : ℕ) → place < length met → i < 64
    → digit_at (get_or met place 0) i ≡ 1 → digit_at (get_or done place 0) i ≡ 0 → IsNext met done (place * 64 + i)
next_at met done place i within low has lacks =
    record {
      within = let row : (place * 64 + i) / 64 ≡ place = omega arith in subst (λ k. k < length met) (sym row) within;
      has = digit_true met (place * 64 + i) (digit_there met place i low ∙ has);
      lacks = digit_false done (place * 64 + i) (digit_there done place i low ∙ lacks);
    }

pub next_found : (met done : List ℕ) (place : ℕ) → place < length met
    → 0 < left_at met done place → left_at met done place < 2 ^ 64 → get_or done place 0 < 2 ^ 64
    → IsNext met done (place * 64 + trailing_zeros w64 (left_at met done place))
next_found met done place within some few small =
    let left : ℕ = left_at met done place in
    let lowest = bit_at-trailing_zeros w64 left some few in
    let parts = one_left (digit_at (get_or met place 0) (trailing_zeros w64 left)) (digit_at (get_or done place 0) (trailing_zeros w64 left)) (bit_at-lt (get_or met place 0) (trailing_zeros w64 left))
    (sym (left_digit (get_or met place 0) (get_or done place 0) (trailing_zeros w64 left) small lowest.0) ∙ lowest.1) in
    next_at met done place (trailing_zeros w64 left) within lowest.0 parts.0 parts.1

pub none_next : (first : ℕ) (met done : List ℕ)
    → ((k : ℕ) → first ≤ k → k < length met → left_at met done k ≡ 0) → ((k : ℕ) → get_or done k 0 < 2 ^ 64) → HasAllBits first met done
none_next first met done none few m from has =
    elim (cases_lt (m / 64) (length met)) [
      | inl l ↦ digit_true done m (none_left (digit_in met m) (digit_in done m) (bit_at-lt (get_or done (m / 64) 0) (m % 64)) (true_digit met m has)
          (sym (left_digit (get_or met (m / 64) 0) (get_or done (m / 64) 0) (m % 64) (few (m / 64)) (omega arith)) ∙ (ap (λ v. digit_at v (m % 64)) (none (m / 64) from l) ∙ bit_at-zero (m % 64))))
      | inr l ↦ absurd (not_both (digit_in met m) (ap (λ v. digit_at v (m % 64)) (get_or_past met (m / 64) 0 l) ∙ bit_at-zero (m % 64)) (true_digit met m has))
    ]
