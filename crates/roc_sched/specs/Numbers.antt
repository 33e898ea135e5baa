-- Words that are numbers and names: docs/FORMATS.md, "Schedule" and "Requests".
use Rattle.std.specs.Prelude.{ℕ, ℤ, pos, neg_ℤ, nat_lt, nat_le, Bool, false, not, ◌&&◌, ◌||◌, ◌==◌, if◌then◌else◌, List, [], ◌∷◌, length, Option, Some, None}
use Rattle.std.specs.List.{list_all}
use Rattle.std.specs.Option.{option_map}
use Rattle.std.specs.Char.{is_ascii_alphabetic, is_ascii_digit}
use Rattle.roc_lang.specs.Tokens.{is_word_byte, decimal}
use Rattle.roc_lang.specs.Grammar.{is_reserved, minus}
use Rattle.roc_sched.specs.Each.{◌>>=◌}
use Rattle.roc_sched.specs.Lines.{is_empty}

-- digits without a leading zero but 0 itself
abbrev pub is_decimal : List ℕ → Bool
is_decimal [] = false
is_decimal (d ∷ ds) = list_all is_ascii_digit (d ∷ ds) && (is_empty ds || not (d == 48))

-- the number of a word of digits, up to a greatest one
unfoldable pub number_up_to : (greatest : ℕ) → (word : List ℕ) → Option ℕ
number_up_to greatest word = if is_decimal word && nat_le (decimal word) greatest then Some (decimal word) else None

-- digits, or a - directly before digits: what fits 64 bits
unfoldable pub integer_of : (word : List ℕ) → Option ℤ
integer_of [] = None
integer_of (b ∷ bs) =
    if b == minus then option_map (λ n. neg_ℤ (pos n)) (number_up_to 9223372036854775808 bs)
    else option_map pos (number_up_to 9223372036854775807 (b ∷ bs))

-- 0 to 9223372036854775807
abbrev pub node_number : (word : List ℕ) → Option ℕ
node_number word = number_up_to 9223372036854775807 word

-- a number but 0
abbrev pub positive : ℕ → Option ℕ
positive n = if nat_lt 0 n then Some n else None

-- 1 to 4294967295
unfoldable pub message_of : (word : List ℕ) → Option ℕ
message_of word = number_up_to 4294967295 word >>= positive

-- 0 to 4294967295
abbrev pub choice_number : (word : List ℕ) → Option ℕ
choice_number word = number_up_to 4294967295 word

-- a name of the language of workloads: a letter, then letters, digits and _, 1 to 32 bytes, and no word of the grammar
unfoldable pub is_name : (word : List ℕ) → Bool
is_name [] = false
is_name (b ∷ bs) = is_ascii_alphabetic b && list_all is_word_byte bs && nat_lt (length bs) 32 && not (is_reserved (b ∷ bs))
