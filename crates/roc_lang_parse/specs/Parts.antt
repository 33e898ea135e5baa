-- Single tokens, and several of a kind, are read.
use Rattle.std.specs.Prelude.{ℕ, ℤ, zero, suc, pos, neg_ℤ, ◌^◌, Bool, true, false, ◌&&◌, nat_lt, nat_le, ◌==◌, if◌then◌else◌, List, [], ◌∷◌, ◌++◌, Option}
use Rattle.std.specs.Prelude.{Some, None, Ok}
use Rattle.std.specs.Option.{option_map, option_map_or}
use Rattle.std.specs.Str.{bytes_eq}
use lib.Chars.{codes}
use Rattle.roc_lang.specs.Tokens.{Kind, Word, Integer, Mark, Token}
use Rattle.roc_lang.specs.Syntax.{Name}
use Rattle.roc_lang.specs.Grammar.{is_reserved, comma, plus, minus}
use Rattle.roc_lang_parse.specs.Stuck.{Reading, ◌>>=◌, refuse, exceed, head_is}

-- ---- single tokens

-- the first token, where it is one that a rule takes
unfoldable pub first_at : {A : Type 0} → (Token → Option A) → List Token → Reading A
first_at taken [] = refuse []
first_at taken (t ∷ ts) = option_map_or (λ x. Ok (x, ts)) (taken t) (refuse (t ∷ ts))

abbrev pub has_word : List ℕ → Kind → Bool
has_word word (Word letters) = bytes_eq letters word
has_word word (Integer n) = false
has_word word (Mark b) = false

abbrev pub has_mark : ℕ → Kind → Bool
has_mark mark (Word letters) = false
has_mark mark (Integer n) = false
has_mark mark (Mark b) = b == mark

abbrev pub has_integer : Kind → Bool
has_integer (Word letters) = false
has_integer (Integer n) = true
has_integer (Mark b) = false

abbrev pub passes : Bool → Option (Unit {0})
passes true = Some tt
passes false = None

abbrev pub word_at : List ℕ → List Token → Reading (Unit {0})
word_at word = first_at (λ t. passes (has_word word t.kind))

abbrev pub mark_at : ℕ → List Token → Reading (Unit {0})
mark_at mark = first_at (λ t. passes (has_mark mark t.kind))

-- the line of a word
abbrev pub word_line_at : List ℕ → List Token → Reading ℕ
word_line_at word = first_at (λ t. if has_word word t.kind then Some t.line else None)

-- the line of a mark
abbrev pub mark_line_at : ℕ → List Token → Reading ℕ
mark_line_at mark = first_at (λ t. if has_mark mark t.kind then Some t.line else None)

-- a word that may be a name
abbrev pub free_word : Kind → Option (List ℕ)
free_word (Word letters) = if is_reserved letters then None else Some letters
free_word (Integer n) = None
free_word (Mark b) = None

abbrev pub name_of : Token → Option Name
name_of t = option_map (λ letters. record { text = letters; line = t.line }) (free_word t.kind)

abbrev pub name_at : List Token → Reading Name
name_at = first_at name_of

abbrev pub small_integer : Kind → Option ℕ
small_integer (Word letters) = None
small_integer (Integer n) = if nat_lt n (2 ^ 63) then Some n else None
small_integer (Mark b) = None

abbrev pub integer_at : List Token → Reading ℤ
integer_at = first_at (λ t. option_map pos (small_integer t.kind))

-- an integer within bounds: past them another one would be taken
abbrev pub bounded_by : (least most : ℕ) → Token → List Token → Option ℕ → Reading ℕ
bounded_by least most t ts None = refuse (t ∷ ts)
bounded_by least most t ts (Some n) = if nat_le least n && nat_le n most then Ok (n, ts) else exceed (t ∷ ts)

unfoldable pub bounded_at : (least most : ℕ) → List Token → Reading ℕ
bounded_at least most [] = refuse []
bounded_at least most (t ∷ ts) = bounded_by least most t ts (small_integer t.kind)

-- an integer behind a -
abbrev pub negated : Kind → Option ℤ
negated (Word letters) = None
negated (Integer n) = if nat_le n (2 ^ 63) then Some (neg_ℤ (pos n)) else None
negated (Mark b) = None

abbrev pub negated_at : List Token → Reading ℤ
negated_at = first_at (λ t. negated t.kind)

unfoldable pub signed_at : List Token → Reading ℤ
signed_at ts = if head_is (has_mark minus) ts then (do a ← mark_at minus ts; negated_at a.1) else integer_at ts

-- the number of shards and its line
abbrev pub shards_at : List Token → Reading (ℕ × ℕ)
shards_at = first_at (λ t. option_map (λ n. (n, t.line)) (small_integer t.kind))

-- now is true, later is false
abbrev pub piece_class : Kind → Option Bool
piece_class kind = if has_word (codes "now") kind then Some true else if has_word (codes "later") kind then Some false else None

-- the class of a piece and its line
abbrev pub class_at : List Token → Reading (Bool × ℕ)
class_at = first_at (λ t. option_map (λ is_now. (is_now, t.line)) (piece_class t.kind))

-- + is true, - is false
abbrev pub sign_of : Kind → Option Bool
sign_of kind = if has_mark plus kind then Some true else if has_mark minus kind then Some false else None

abbrev pub sign_at : List Token → Reading Bool
sign_at = first_at (λ t. sign_of t.kind)

-- ---- several

-- as many as come, with room for so many
unfoldable pub many_at : {A : Type 0} (starts : Kind → Bool) (item : List Token → Reading A) (room : ℕ) → List Token → Reading (List A)
many_at starts item zero ts = if head_is starts ts then exceed ts else Ok ([], ts)
many_at starts item (suc room) ts =
    if head_is starts ts then (do x ← item ts; xs ← many_at starts item room x.1; Ok (x.0 ∷ xs.0, xs.1)) else Ok ([], ts)

-- values in front of those that are read
abbrev pub with_front : {A : Type 0} → List A → Reading (List A) → Reading (List A)
with_front front r = r >>= λ x. Ok (front ++ x.0, x.1)

-- one that must come, and those behind it
unfoldable pub some_at : {A : Type 0} (starts : Kind → Bool) (first next : List Token → Reading A) (more : ℕ) → List Token → Reading (List A)
some_at starts first next more ts = do
  x ← first ts
  xs ← many_at starts next more x.1
  Ok (x.0 ∷ xs.0, xs.1)

-- a comma, and one behind it
unfoldable pub behind_comma_at : {A : Type 0} → (List Token → Reading A) → List Token → Reading A
behind_comma_at item ts = do
  a ← mark_at comma ts
  item a.1

-- some with commas between: one, and so many more
abbrev pub separated_at : {A : Type 0} → (List Token → Reading A) → (more : ℕ) → List Token → Reading (List A)
separated_at item more = some_at (has_mark comma) item (behind_comma_at item) more

-- one that was read, and so many more
abbrev pub separated_behind : {A : Type 0} → (List Token → Reading A) → (first : A) (more : ℕ) → List Token → Reading (List A)
separated_behind item first more ts = with_front (first ∷ []) (many_at (has_mark comma) (behind_comma_at item) more ts)
