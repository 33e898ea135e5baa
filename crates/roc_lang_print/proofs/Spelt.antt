-- Tokens of bytes, one step in front of the others.
use Rattle.std.proofs.Common.{◌≡◌, ℕ, List, ◌∷◌, ◌++◌, IsTrue}
use Rattle.roc_lang.specs.Tokens as tokens
use Rattle.roc_lang.specs.Tokens.{Word, Integer, Mark, Token, is_blank, is_mark, line_after, IsWord, IsDecimal, IsTokenEnd, decimal, IsTokens, step}

pub blank : {line b : ℕ} {rest : List ℕ} {others : List Token} → IsTrue (is_blank b) → IsTokens (line_after line b) rest others → IsTokens line (b ∷ rest) others
blank h i = step (tokens.blank h) i

pub mark : {line b : ℕ} {rest : List ℕ} {others : List Token} → IsTrue (is_mark b) → IsTokens line rest others → IsTokens line (b ∷ rest) (record { kind = Mark b; line = line } ∷ others)
mark h i = step (tokens.mark h) i

pub word : {line : ℕ} {bytes rest : List ℕ} {others : List Token} (letters : List ℕ) → bytes ≡ letters ++ rest → IsWord letters → IsTokenEnd rest → IsTokens line rest others → IsTokens line bytes (record { kind = Word letters; line = line } ∷ others)
word letters e is end i = step (tokens.word letters e is end) i

pub integer : {line : ℕ} {bytes rest : List ℕ} {others : List Token} (digits : List ℕ) → bytes ≡ digits ++ rest → IsDecimal digits → IsTokenEnd rest → IsTokens line rest others → IsTokens line bytes (record { kind = Integer (decimal digits); line = line } ∷ others)
integer digits e is end i = step (tokens.integer digits e is end) i
