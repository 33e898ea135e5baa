-- What is written of a name or a number spells it, whatever stands behind.
use Rattle.std.proofs.Common.{◌≡◌, ℕ, zero, suc, ◌^◌, ◌<◌, ◌≤◌, List, ◌∷◌, ◌++◌, refl, sym, subst, append_assoc, arith}
use Rattle.std.specs.Prelude.{ℤ, pos, negsuc, neg_ℤ}
use Rattle.std.specs.Fmt as fmt
use Rattle.roc_lang.specs.Syntax.{Name}
use Rattle.roc_lang.specs.Tokens.{Kind, Word, Integer, Mark, Token, IsTokenEnd, IsTokens}
use Rattle.roc_lang_print.proofs.Spelt.{word, integer, mark}
use Rattle.roc_lang.specs.Grammar.{IsToken, IsName, IsSigned, plain, negated, minus}
use Rattle.roc_lang_print.specs.UpToLines.{bare_name}
use Rattle.roc_lang_print.proofs.Numerals.{written_is_decimal, written_value}
use Rattle.roc_lang_print.proofs.Fit.{Words, IsFitName, behind}

-- ---- lists one behind the other, grouped to the right

pub grouped_3 : (a b c d : List ℕ) → a ++ b ++ c ++ d ≡ a ++ (b ++ (c ++ d))
grouped_3 a b c d = simp append_assoc

pub grouped_4 : (a b c d e : List ℕ) → a ++ b ++ c ++ d ++ e ≡ a ++ (b ++ (c ++ (d ++ e)))
grouped_4 a b c d e = simp append_assoc

pub grouped_5 : (a b c d e f : List ℕ) → a ++ b ++ c ++ d ++ e ++ f ≡ a ++ (b ++ (c ++ (d ++ (e ++ f))))
grouped_5 a b c d e f = simp append_assoc

pub grouped_6 : (a b c d e f g : List ℕ) → a ++ b ++ c ++ d ++ e ++ f ++ g ≡ a ++ (b ++ (c ++ (d ++ (e ++ (f ++ g)))))
grouped_6 a b c d e f g = simp append_assoc

pub grouped_7 : (a b c d e f g h : List ℕ) → a ++ b ++ c ++ d ++ e ++ f ++ g ++ h ≡ a ++ (b ++ (c ++ (d ++ (e ++ (f ++ (g ++ h))))))
grouped_7 a b c d e f g h = simp append_assoc

pub grouped_9 : (a b c d e f g h i j : List ℕ) → a ++ b ++ c ++ d ++ e ++ f ++ g ++ h ++ i ++ j ≡ a ++ (b ++ (c ++ (d ++ (e ++ (f ++ (g ++ (h ++ (i ++ j))))))))
grouped_9 a b c d e f g h i j = simp append_assoc

-- ---- the tokens of a text, and the tree that they are, which is like this one up to lines

pub record Made {A : Type 0} (Is : List Token → List Token → A → Type 0) (bare : A → A) (line : ℕ) (bytes : List ℕ) (others : List Token) (x : A) : Type 0 where
  pub tokens : List Token
  pub tree : A
  pub spelt : IsTokens line bytes tokens
  pub is : Is tokens others tree
  pub same : bare tree ≡ bare x

-- ---- single tokens

abbrev pub at_line : Kind → ℕ → Token
at_line kind line = record { kind = kind; line = line }

pub token_is : (kind : Kind) (line : ℕ) (others : List Token) → IsToken kind (at_line kind line ∷ others) others
token_is kind line others = record { line = line; is = refl }

pub name_made : (name : Name) → IsFitName name → (line : ℕ) (rest : List ℕ) (others : List Token) → IsTokenEnd rest → IsTokens line rest others → Made IsName bare_name line (name.text ++ rest) others name
name_made name h line rest others end i =
    record { tokens = at_line (Word name.text) line ∷ others; tree = record { text = name.text; line = line }; spelt = word name.text refl h.word end i; is = record { is = refl; free = h.free }; same = refl }

pub integer_spelt : (n : ℕ) → n ≤ 2 ^ 63 → (line : ℕ) (rest : List ℕ) (others : List Token) → IsTokenEnd rest → IsTokens line rest others → IsTokens line (fmt.decimal n ++ rest) (at_line (Integer n) line ∷ others)
integer_spelt n fits line rest others end i = subst (λ k. IsTokens line (fmt.decimal n ++ rest) (at_line (Integer k) line ∷ others)) (written_value n fits) (integer (fmt.decimal n) refl (written_is_decimal n fits) end i)

-- ---- signed integers

abbrev pub IsFitSigned : ℤ → Type 0
IsFitSigned (pos n) = n < 2 ^ 63
IsFitSigned (negsuc n) = suc n ≤ 2 ^ 63

negated_fit : (n : ℕ) → n ≤ 2 ^ 63 → IsFitSigned (neg_ℤ (pos n))
negated_fit zero fits = omega arith
negated_fit (suc n) fits = fits

pub signed_fit : {a b : List Token} {z : ℤ} → IsSigned a b z → Words a → IsFitSigned z × Words b
signed_fit (plain i) w = (i.fits, behind i.is w)
signed_fit (negated {n = n} s t fits e) w = (subst IsFitSigned (sym e) (negated_fit n fits), behind t (behind s w))

pub record SignedMade (line : ℕ) (bytes : List ℕ) (others : List Token) (z : ℤ) : Type 0 where
  pub tokens : List Token
  pub spelt : IsTokens line bytes tokens
  pub is : IsSigned tokens others z

pub signed_made : (z : ℤ) → IsFitSigned z → (line : ℕ) (rest : List ℕ) (others : List Token) → IsTokenEnd rest → IsTokens line rest others → SignedMade line (fmt.signed_decimal z ++ rest) others z
signed_made (pos n) fits line rest others end i = record {
  tokens = at_line (Integer n) line ∷ others;
  spelt = integer_spelt n (omega arith) line rest others end i;
  is = plain (record { is = token_is (Integer n) line others; fits = fits });
}
signed_made (negsuc n) fits line rest others end i = record {
  tokens = at_line (Mark minus) line ∷ at_line (Integer (suc n)) line ∷ others;
  spelt = mark refl (integer_spelt (suc n) fits line rest others end i);
  is = negated (token_is (Mark minus) line (at_line (Integer (suc n)) line ∷ others)) (token_is (Integer (suc n)) line others) fits refl;
}
