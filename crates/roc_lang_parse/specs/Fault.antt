-- Which bytes are a workload text within the limits, and the first fault of those that are none: docs/LANGUAGE.md, "Faults".
use Rattle.std.specs.Prelude.{ℕ, ◌-◌, ◌^◌, ◌<◌, ◌≤◌, Bool, false, ◌==◌, IsTrue, IsFalse, List, [], ◌∷◌, ◌++◌, length, take}
use Rattle.std.specs.List.{fold}
use Rattle.roc_lang.specs.Syntax.{Tree}
use Rattle.roc_lang.specs.Tokens as tokens
use Rattle.roc_lang.specs.Tokens.{Kind, IsTokens, line_after}
use Rattle.roc_lang.specs.Grammar.{Limits, standard, IsText, text_limit}
use Rattle.roc_lang.specs.declared.fault.What.{What}
use Rattle.roc_lang.specs.declared.fault.What.TheVariants.{Word, Token, Limit, End}
use Rattle.roc_lang_parse.specs.Lexed.{IsLexed, IsBroken}

-- the bytes are a text of this tree, within the limits
pub record IsWorkloadText (bytes : List ℕ) (t : Tree) : Type 0 where
  pub size : length bytes ≤ text_limit
  pub tokens : List tokens.Token
  pub spelt : IsTokens 1 bytes tokens
  pub text : IsText standard tokens t

-- some text of the grammar within these limits begins with these tokens
pub record GoesOn (limits : Limits) (before : List tokens.Token) : Type 0 where
  pub more : List tokens.Token
  pub tree : Tree
  pub is : IsText limits (before ++ more) tree

-- the integer that is a token, but that the grammar takes behind a - alone
abbrev pub is_above : Kind → Bool
is_above (tokens.Word letters) = false
is_above (tokens.Integer n) = n == 2 ^ 63
is_above (tokens.Mark b) = false

-- the line of the last byte: a line feed at the end begins no further line
abbrev pub last_line : List ℕ → ℕ
last_line bytes = fold line_after 1 (take (length bytes - 1) bytes)

-- The first fault, with its line. Before it stand tokens with which some text within the limits goes on.
pub data IsFirstFault (bytes : List ℕ) : (line : ℕ) → What → Type 0 where
  -- too many bytes
  too_long : text_limit < length bytes → IsFirstFault bytes 1 Limit
  -- no token
  broken : {line : ℕ} {rest : List ℕ} {before : List tokens.Token} → length bytes ≤ text_limit → IsLexed 1 bytes before line rest → IsBroken line rest
      → GoesOn standard before → IsFirstFault bytes line Word
  -- 2 ^ 63 where no text goes on with it
  misplaced : {after : ℕ} {rest : List ℕ} {before : List tokens.Token} (t : tokens.Token) (behind : List tokens.Token) → length bytes ≤ text_limit
      → IsLexed 1 bytes (before ++ t ∷ behind) after rest → GoesOn standard before
      → ((limits : Limits) → GoesOn limits (before ++ t ∷ []) → ⊥) → IsTrue (is_above t.kind) → IsFirstFault bytes t.line Word
  -- a token with which no text of the grammar goes on, whatever the limits
  wrong : {after : ℕ} {rest : List ℕ} {before : List tokens.Token} (t : tokens.Token) (behind : List tokens.Token) → length bytes ≤ text_limit
      → IsLexed 1 bytes (before ++ t ∷ behind) after rest → GoesOn standard before
      → ((limits : Limits) → GoesOn limits (before ++ t ∷ []) → ⊥) → IsFalse (is_above t.kind) → IsFirstFault bytes t.line Token
  -- a token with which a text of the grammar goes on, but none within the limits
  beyond : {after : ℕ} {rest : List ℕ} {before : List tokens.Token} (t : tokens.Token) (behind : List tokens.Token) → length bytes ≤ text_limit
      → IsLexed 1 bytes (before ++ t ∷ behind) after rest → GoesOn standard before
      → (GoesOn standard (before ++ t ∷ []) → ⊥) → (limits : Limits) → GoesOn limits (before ++ t ∷ []) → IsFirstFault bytes t.line Limit
  -- the text stops where more must come
  stops : {all : List tokens.Token} → length bytes ≤ text_limit → IsTokens 1 bytes all → GoesOn standard all → ((t : Tree) → IsText standard all t → ⊥)
      → IsFirstFault bytes (last_line bytes) End
