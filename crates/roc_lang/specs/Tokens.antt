-- Words, integers and marks, and the bytes that spell them: docs/LANGUAGE.md, "Tokens".
use Rattle.std.specs.Prelude.{◌≡◌, ℕ, ◌+◌, ◌-◌, ◌*◌, ◌^◌, ◌<◌, ◌≤◌, Bool, ◌||◌, ◌==◌, if◌then◌else◌, IsTrue, IsFalse, List, [], ◌∷◌}
use Rattle.std.specs.Prelude.{◌++◌, length}
use Rattle.std.specs.Char.{is_ascii_alphabetic, is_ascii_alphanumeric, is_ascii_digit}
use Rattle.std.specs.List.{list_any, fold, AllByRecursion}
use lib.Chars.{codes}
use Rattle.roc_lang.specs.declared.limits.TheConstants.{WORD_BYTES}

pub data Kind : Type 0 where
  Word : (letters : List ℕ) → Kind
  Integer : (value : ℕ) → Kind
  Mark : (byte : ℕ) → Kind

-- a token where it stands: its line is one more than the line feeds before it
pub record Token : Type 0 where
  pub kind : Kind
  pub line : ℕ

-- a letter, a digit or _
abbrev pub is_word_byte : ℕ → Bool
is_word_byte b = is_ascii_alphanumeric b || b == 95

-- one of { } ( ) [ ] , ; . = + - *
abbrev pub is_mark : ℕ → Bool
is_mark b = list_any (λ m. b == m) (codes "{}()[],;.=+-*")

-- space, tab, CR or LF
abbrev pub is_blank : ℕ → Bool
is_blank b = list_any (λ c. b == c) (32 ∷ 9 ∷ 13 ∷ 10 ∷ [])

-- the line behind a byte
abbrev pub line_after : ℕ → ℕ → ℕ
line_after line b = if b == 10 then line + 1 else line

-- a letter, then letters, digits and _: at most 32 bytes
abbrev pub IsWord : List ℕ → Type 0
IsWord [] = ⊥
IsWord (b ∷ bs) = IsTrue (is_ascii_alphabetic b) × AllByRecursion (λ c. IsTrue (is_word_byte c)) bs × (length bs < WORD_BYTES)

-- the number that decimal digits spell
abbrev pub decimal : List ℕ → ℕ
decimal digits = fold (λ n d. n * 10 + (d - 48)) 0 digits

-- digits without a leading zero but 0 itself: at most 2 ^ 63, which the grammar takes behind a - alone
abbrev pub IsDecimal : List ℕ → Type 0
IsDecimal [] = ⊥
IsDecimal (d ∷ ds) = AllByRecursion (λ c. IsTrue (is_ascii_digit c)) (d ∷ ds) × (d ≡ 48 → ds ≡ []) × (decimal (d ∷ ds) ≤ 2 ^ 63)

-- a word or an integer goes on as far as it can
abbrev pub IsTokenEnd : List ℕ → Type 0
IsTokenEnd [] = Unit {0}
IsTokenEnd (b ∷ bs) = IsFalse (is_word_byte b)

abbrev pub IsLineEnd : List ℕ → Type 0
IsLineEnd [] = Unit {0}
IsLineEnd (b ∷ bs) = b ≡ 10

-- one step from bytes that begin on a line: a blank, a comment, or a token; and the line and the bytes behind it
pub data IsTokenStep : (line : ℕ) (bytes : List ℕ) (tokens : List Token) (after : ℕ) (rest : List ℕ) → Type 0 where
  blank : {line b : ℕ} {rest : List ℕ} → IsTrue (is_blank b) → IsTokenStep line (b ∷ rest) [] (line_after line b) rest
  comment : {line : ℕ} {bytes rest : List ℕ} (text : List ℕ) → bytes ≡ codes "//" ++ (text ++ rest) → AllByRecursion (λ b. IsFalse (b == 10)) text → IsLineEnd rest
      → IsTokenStep line bytes [] line rest
  word : {line : ℕ} {bytes rest : List ℕ} (letters : List ℕ) → bytes ≡ letters ++ rest → IsWord letters → IsTokenEnd rest
      → IsTokenStep line bytes (record { kind = Word letters; line = line } ∷ []) line rest
  integer : {line : ℕ} {bytes rest : List ℕ} (digits : List ℕ) → bytes ≡ digits ++ rest → IsDecimal digits → IsTokenEnd rest
      → IsTokenStep line bytes (record { kind = Integer (decimal digits); line = line } ∷ []) line rest
  mark : {line b : ℕ} {rest : List ℕ} → IsTrue (is_mark b) → IsTokenStep line (b ∷ rest) (record { kind = Mark b; line = line } ∷ []) line rest

-- bytes that begin on a line, and their tokens: one step behind the other
pub data IsTokens : (line : ℕ) (bytes : List ℕ) → List Token → Type 0 where
  nothing : {line : ℕ} → IsTokens line [] []
  step : {line after : ℕ} {bytes rest : List ℕ} {some others : List Token} → IsTokenStep line bytes some after rest → IsTokens after rest others → IsTokens line bytes (some ++ others)
