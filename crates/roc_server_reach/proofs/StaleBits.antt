-- Bits of words without those of others
use Rattle.std.proofs.Common.{◌≡◌, ℕ, zero, suc, ◌-◌, ◌/◌, ◌%◌, ◌^◌, ◌<◌, ◌≤◌, min, Bool, true, false, ◌||◌, ◌&&◌, not, List, [], ◌∷◌, ◌++◌, length, get_or}
use Rattle.std.proofs.Common.{eqb, bit_and, bit_or, refl, sym, ap, ◌∙◌, inl, inr, arith, w64}
use Rattle.std.proofs.lemmas.Bool.{cases_lt}
use Rattle.std.proofs.lemmas.List.{get_or_past}
use Rattle.std.proofs.lemmas.Nat.Bits.{bit_at_and, bit_at-zero, bit_at-lt}
use Rattle.std.specs.Int.{bit_at as digit_at, bit_not}
use Rattle.std.specs.Int.Bits.{and_zero_l}
use Rattle.roc_server_reach.specs.Bits.{row_bit}
use Rattle.roc_server_reach.specs.Inner.Words.{word_but, words_but, IsWithout}
use Rattle.roc_server_reach.proofs.WordBits.{digit_in, left_at, left_digit, joined, not_both, digit_false, true_digit}

-- each is one of 64 bits
abbrev pub AreSmall : List ℕ → Type 0
AreSmall words = (k : ℕ) → get_or words k 0 < 2 ^ 64

-- ---- word by word

word_left : (words stale : List ℕ) (k : ℕ) → get_or (words_but words stale) k 0 ≡ left_at words stale k
unfolding words_but
word_left [] stale k = sym (and_zero_l (bit_not w64 (get_or stale k 0)))
word_left (w ∷ ws) [] zero = refl
word_left (w ∷ ws) [] (suc k) = word_left ws [] k
word_left (w ∷ ws) (s ∷ ss) zero = refl
word_left (w ∷ ws) (s ∷ ss) (suc k) = word_left ws ss k

length_but : (words stale : List ℕ) → length (words_but words stale) ≡ length words
unfolding words_but
length_but [] stale = refl
length_but (w ∷ ws) [] = ap suc (length_but ws [])
length_but (w ∷ ws) (s ∷ ss) = ap suc (length_but ws ss)

pub none_but : (stale : List ℕ) → words_but [] stale ≡ []
unfolding words_but
none_but stale = refl

-- a word of nothing more
pub wider_but : (words stale : List ℕ) → words_but words (stale ++ 0 ∷ []) ≡ words_but words stale
unfolding words_but
wider_but [] stale = refl
wider_but (w ∷ ws) [] = refl
wider_but (w ∷ ws) (s ∷ ss) = ap (λ vs. word_but w s ∷ vs) (wider_but ws ss)

same_word : (a b : List ℕ) (m : ℕ) → get_or a (m / 64) 0 ≡ get_or b (m / 64) 0 → row_bit a m ≡ row_bit b m
unfolding row_bit
same_word a b m e = ap (λ v. eqb (digit_at v (m % 64)) 1) e

-- beyond the words
left_past : (words stale : List ℕ) (k : ℕ) → length words ≤ k → ◌≡◌ {A = ℕ} (left_at words stale k) 0
left_past words stale k past = ap (λ v. bit_and v (bit_not w64 (get_or stale k 0))) (get_or_past words k 0 past) ∙ and_zero_l (bit_not w64 (get_or stale k 0))

pub past_but : (words stale : List ℕ) (m : ℕ) → length words ≤ m / 64 → row_bit (words_but words stale) m ≡ false
past_but words stale m past =
    digit_false (words_but words stale) m (ap (λ v. digit_at v (m % 64)) (word_left words stale (m / 64) ∙ left_past words stale (m / 64) past) ∙ bit_at-zero (m % 64))

pub taken_out : (stale old new : List ℕ) → length new ≡ length old → ((k : ℕ) → k < length old → get_or new k 0 ≡ left_at old stale k) → IsWithout stale old new
taken_out stale old new each front = record { each = each; bits = λ m. same_word new (words_but old stale) m (word (m / 64)) }
  where
    word : (k : ℕ) → get_or new k 0 ≡ get_or (words_but old stale) k 0
    word k = elim (cases_lt k (length old)) [
      | inl l ↦ front k l ∙ sym (word_left old stale k)
      | inr l ↦ get_or_past new k 0 (omega arith) ∙ sym (word_left old stale k ∙ left_past old stale k l)
    ]

pub joined_but : (old added stale new : List ℕ)
    → ((k : ℕ) → k < length added → get_or new k 0 ≡ bit_or (get_or old k 0) (left_at added stale k))
    → ((k : ℕ) → length added ≤ k → get_or new k 0 ≡ get_or old k 0)
    → (m : ℕ) → row_bit new m ≡ (row_bit old m || row_bit (words_but added stale) m)
joined_but old added stale new front rest =
    joined old (words_but added stale) new
    (λ k h. front k (omega (arith, h, length_but added stale)) ∙ ap (bit_or (get_or old k 0)) (sym (word_left added stale k)))
    (λ k h. rest k (omega (arith, h, length_but added stale)))

-- ---- bit by bit

one_not_other : (d e : ℕ) → d < 2 → e < 2 → eqb (min d (1 - e)) 1 ≡ (eqb d 1 && not (eqb e 1))
one_not_other zero zero h k = refl
one_not_other zero (suc zero) h k = refl
one_not_other zero (suc (suc e)) h k = absurd (omega arith)
one_not_other (suc zero) zero h k = refl
one_not_other (suc zero) (suc zero) h k = refl
one_not_other (suc zero) (suc (suc e)) h k = absurd (omega arith)
one_not_other (suc (suc d)) e h k = absurd (omega arith)

bit_but : (words stale : List ℕ) → AreSmall stale → (m : ℕ) → row_bit (words_but words stale) m ≡ (row_bit words m && not (row_bit stale m))
unfolding row_bit
bit_but words stale few m =
    ap (λ v. eqb (digit_at v (m % 64)) 1) (word_left words stale (m / 64))
    ∙ (ap (λ d. eqb d 1) (left_digit (get_or words (m / 64) 0) (get_or stale (m / 64) 0) (m % 64) (few (m / 64)) (omega arith))
    ∙ one_not_other (digit_in words m) (digit_in stale m) (bit_at-lt (get_or words (m / 64) 0) (m % 64)) (bit_at-lt (get_or stale (m / 64) 0) (m % 64)))

and_not_true : (a b : Bool) → b ≡ true → (a && not b) ≡ false
and_not_true true true e = refl
and_not_true false true e = refl
and_not_true a false e = absurd (cc)

and_not_false : (a b : Bool) → (a ≡ true → b ≡ false) → (a && not b) ≡ a
and_not_false true true f = absurd (cc (f refl))
and_not_false true false f = refl
and_not_false false b f = refl

module _ (words stale : List ℕ) (few : AreSmall stale) (m : ℕ) where
  pub stale_bit : row_bit stale m ≡ true → row_bit (words_but words stale) m ≡ false
  stale_bit e = bit_but words stale few m ∙ and_not_true (row_bit words m) (row_bit stale m) e

  pub live_bit : (row_bit words m ≡ true → row_bit stale m ≡ false) → row_bit (words_but words stale) m ≡ row_bit words m
  live_bit f = bit_but words stale few m ∙ and_not_false (row_bit words m) (row_bit stale m) f

  pub same_but : (stale2 : List ℕ) → AreSmall stale2 → row_bit stale2 m ≡ row_bit stale m → row_bit (words_but words stale2) m ≡ row_bit (words_but words stale) m
  same_but stale2 few2 e = bit_but words stale2 few2 m ∙ (ap (λ b. row_bit words m && not b) e ∙ sym (bit_but words stale few m))

none_both : (d e : ℕ) → d ≡ 1 → min d e ≡ 0 → e ≡ 0
none_both d e one h = omega arith

pub none_common : (set other : List ℕ) → AreSmall other → ((k : ℕ) → k < length set → bit_and (get_or set k 0) (get_or other k 0) ≡ 0) → IsWithout other set set
none_common set other few none = record { each = refl; bits = λ m. sym (live_bit set other few m (lacks m)) }
  where
    lacks : (m : ℕ) → row_bit set m ≡ true → row_bit other m ≡ false
    lacks m has =
        elim (cases_lt (m / 64) (length set)) [
          | inl l ↦ digit_false other m (none_both (digit_in set m) (digit_in other m) (true_digit set m has)
              (sym (bit_at_and (get_or set (m / 64) 0) (get_or other (m / 64) 0) (m % 64)) ∙ (ap (λ v. digit_at v (m % 64)) (none (m / 64) l) ∙ bit_at-zero (m % 64))))
          | inr l ↦ absurd (not_both (digit_in set m) (ap (λ v. digit_at v (m % 64)) (get_or_past set (m / 64) 0 l) ∙ bit_at-zero (m % 64)) (true_digit set m has))
        ]

-- where there is nothing to take out
pub zeros_but : (words zeros : List ℕ) → ((k : ℕ) → get_or zeros k 0 ≡ 0) → IsWithout zeros words words
zeros_but words zeros none = record { each = refl; bits = λ m. sym (live_bit words zeros (λ k. (let low = none k in omega arith)) m (λ h. lacks m)) }
  where
    lacks : (m : ℕ) → row_bit zeros m ≡ false
    lacks m = digit_false zeros m (ap (λ v. digit_at v (m % 64)) (none (m / 64)) ∙ bit_at-zero (m % 64))

pub all_zero : (words : List ℕ) → ((k : ℕ) → k < length words → get_or words k 0 ≡ 0) → (k : ℕ) → ◌≡◌ {A = ℕ} (get_or words k 0) 0
all_zero words zeros k = elim (cases_lt k (length words)) [ inl l ↦ zeros k l | inr l ↦ get_or_past words k 0 l ]
