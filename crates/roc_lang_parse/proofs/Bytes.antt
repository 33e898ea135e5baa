-- The classes of bytes are apart.
use Rattle.std.proofs.Common.{◌≡◌, ℕ, ◌≤◌, Bool, true, false, ◌||◌, ◌==◌, List, [], ◌∷◌, refl, sym, subst, ◌∙◌, arith}
use Rattle.std.specs.List.{list_any, AllByRecursion}
use Rattle.std.specs.Char.{is_ascii_alphabetic, is_ascii_digit}
use Rattle.std.proofs.lemmas.Bool.{eqb-true}
use lib.Chars.{codes}
use Rattle.std.proofs.lemmas.Bool.Decides.{nat_tests}
use Rattle.roc_lang.specs.Tokens.{is_word_byte, is_mark, is_blank, line_after}

-- a byte that is one of a list, where each of the list has a property
pub one_of : (P : ℕ → Type 0) (ms : List ℕ) (b : ℕ) → AllByRecursion P ms → list_any (λ m. b == m) ms ≡ true → P b
one_of P [] b all passes = absurd cc
one_of P (m ∷ ms) b all passes = go (b == m) refl passes (λ p. one_of P ms b all.1 p)
  where
    go : (t : Bool) → (b == m) ≡ t → (t || list_any (λ n. b == n) ms) ≡ true → (list_any (λ n. b == n) ms ≡ true → P b) → P b
    go true e p others = subst P (sym (eqb-true b m e)) all.0
    go false e p others = others p

pub letter-blank : (b : ℕ) → is_ascii_alphabetic b ≡ true → is_blank b ≡ false
letter-blank b h = grind (arith, nat_tests)

pub digit-blank : (b : ℕ) → is_ascii_digit b ≡ true → is_blank b ≡ false
digit-blank b h = grind (arith, nat_tests)

pub digit-letter : (b : ℕ) → is_ascii_digit b ≡ true → is_ascii_alphabetic b ≡ false
digit-letter b h = grind (arith, nat_tests)

pub word_byte-line : (b : ℕ) → is_word_byte b ≡ true → (b == 10) ≡ false
word_byte-line b h = grind (arith, nat_tests)

pub digit-word_byte : (b : ℕ) → is_ascii_digit b ≡ true → is_word_byte b ≡ true
digit-word_byte b h = grind (arith, nat_tests)

pub letter-word_byte : (b : ℕ) → is_ascii_alphabetic b ≡ true → is_word_byte b ≡ true
letter-word_byte b h = grind (arith, nat_tests)

pub digit_above : (b : ℕ) → is_ascii_digit b ≡ true → 48 ≤ b
digit_above b h = grind (arith, nat_tests)

pub other-digit : (b : ℕ) → is_word_byte b ≡ false → is_ascii_digit b ≡ false
other-digit b h = go (is_ascii_digit b) refl
  where
    go : (t : Bool) → is_ascii_digit b ≡ t → t ≡ false
    go true e = sym (digit-word_byte b e) ∙ h
    go false e = refl

pub line_after-same : (line b : ℕ) → (b == 10) ≡ false → line_after line b ≡ line
line_after-same line b e = rw e refl

pub digit_below : (b : ℕ) → is_ascii_digit b ≡ true → b ≤ 57
digit_below b h = grind (arith, nat_tests)

pub mark-line : (b : ℕ) → is_mark b ≡ true → (b == 10) ≡ false
mark-line b h = one_of (λ m. (m == 10) ≡ false) (codes "{}()[],;.=+-*") b (refl, (refl, (refl, (refl, (refl, (refl, (refl, (refl, (refl, (refl, (refl, (refl, (refl, tt))))))))))))) h
