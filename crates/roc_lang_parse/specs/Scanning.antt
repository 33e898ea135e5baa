-- The steps of a text are found, one after the other. What a step is stands in Tokens.antt of roc_lang.
use Rattle.std.specs.Prelude.{ℕ, suc, ◌+◌, ◌-◌, ◌*◌, ◌^◌, nat_le, ◌==◌, if◌then◌else◌, List, [], ◌∷◌, take, drop, Option, Some, None}
use Rattle.std.specs.Option.{option_map}
use Rattle.std.specs.Char.{is_ascii_alphabetic, is_ascii_digit}
use Rattle.roc_lang.specs.declared.limits.TheConstants.{WORD_BYTES}
use Rattle.roc_lang.specs.Tokens as tokens
use Rattle.roc_lang.specs.Tokens.{is_word_byte, is_mark, is_blank, line_after}

-- how many letters, digits and _ stand in front
unfoldable pub word_run : List ℕ → ℕ
word_run [] = 0
word_run (b ∷ bs) = if is_word_byte b then suc (word_run bs) else 0

-- how many bytes stand before the end of the line
unfoldable pub line_run : List ℕ → ℕ
line_run [] = 0
line_run (b ∷ bs) = if b == 10 then 0 else suc (line_run bs)

abbrev pub token_at : ℕ → tokens.Kind → List tokens.Token
token_at line kind = record { kind = kind; line = line } ∷ []

-- a value and one more digit: none behind a leading zero, and none past 2 ^ 63
abbrev pub value_and : (value digit : ℕ) → Option ℕ
value_and n d = if is_ascii_digit d then (if n == 0 then None else if nat_le (n * 10 + (d - 48)) (2 ^ 63) then Some (n * 10 + (d - 48)) else None) else None

abbrev pub value_on : Option ℕ → (ℕ → Option ℕ) → Option ℕ
value_on None f = None
value_on (Some n) f = f n

unfoldable pub value_from : ℕ → List ℕ → Option ℕ
value_from n [] = Some n
value_from n (d ∷ ds) = value_on (value_and n d) (λ m. value_from m ds)

unfoldable pub value_of : List ℕ → Option ℕ
value_of [] = None
value_of (d ∷ ds) = if is_ascii_digit d then value_from (d - 48) ds else None

-- a step: its tokens, and the line and the bytes behind it
abbrev pub Scanned : Type 0
Scanned = Option (List tokens.Token × ℕ × List ℕ)

unfoldable pub word_next : ℕ → List ℕ → Scanned
word_next line bytes = if nat_le (word_run bytes) WORD_BYTES then Some (token_at line (tokens.Word (take (word_run bytes) bytes)), line, drop (word_run bytes) bytes) else None

unfoldable pub integer_next : ℕ → List ℕ → Scanned
integer_next line bytes = option_map (λ n. (token_at line (tokens.Integer n), line, drop (word_run bytes) bytes)) (value_of (take (word_run bytes) bytes))

-- what is behind a first /
unfoldable pub comment_next : ℕ → List ℕ → Scanned
comment_next line [] = None
comment_next line (b ∷ bs) = if b == 47 then Some ([], line, drop (line_run bs) bs) else None

unfoldable pub scanned_step : ℕ → List ℕ → Scanned
scanned_step line [] = None
scanned_step line (b ∷ bs) =
    if is_blank b then Some ([], line_after line b, bs)
    else if is_ascii_alphabetic b then word_next line (b ∷ bs)
    else if is_ascii_digit b then integer_next line (b ∷ bs)
    else if b == 47 then comment_next line bs
    else if is_mark b then Some (token_at line (tokens.Mark b), line, bs)
    else None
