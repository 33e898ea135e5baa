-- The tokens of a text from its front up to a place: docs/LANGUAGE.md, "Tokens" and "Faults".
use Rattle.std.specs.Prelude.{ℕ, ◌<◌, List, [], ◌++◌, length}
use Rattle.roc_lang.specs.Tokens.{Token, IsTokenStep}

-- the tokens of bytes that begin on a line, up to a place: its line, and the bytes behind it
pub data IsLexed : (line : ℕ) (bytes : List ℕ) (tokens : List Token) (after : ℕ) (rest : List ℕ) → Type 0 where
  here : {line : ℕ} {bytes : List ℕ} → IsLexed line bytes [] line bytes
  further : {line at after : ℕ} {bytes between rest : List ℕ} {tokens next : List Token} → IsLexed line bytes tokens at between → IsTokenStep at between next after rest
      → IsLexed line bytes (tokens ++ next) after rest

-- a place where the text goes on, but with no token, blank or comment
pub record IsBroken (line : ℕ) (bytes : List ℕ) : Type 0 where
  pub goes_on : 0 < length bytes
  pub nothing : (tokens : List Token) (after : ℕ) (rest : List ℕ) → IsTokenStep line bytes tokens after rest → ⊥
