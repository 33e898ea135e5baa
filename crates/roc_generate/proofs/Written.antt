-- The line of an act is read as that act.
use Rattle.std.proofs.Common.{◌≡◌, ℕ, ℤ, pos, ◌*◌, ◌^◌, ◌<◌, ◌≤◌, Bool, true, false, not, ◌&&◌, ◌||◌, ◌==◌, cond, List, [], ◌∷◌, ◌++◌, length, map, flat_map, length-append, Some, Ok, Err, refl, sym, ap, ◌∙◌, append_assoc, arith}
use Rattle.std.specs.Prelude.{negsuc, neg_ℤ}
use Rattle.std.specs.List.{AllByRecursion, list_all}
use Rattle.std.specs.Option.{option_map}
use Rattle.std.specs.Char.{is_ascii_digit}
use Rattle.std.specs.Fmt as fmt
use Rattle.std.proofs.lemmas.Bool.{eqb-true, le-leb, lt-ltb}
use Rattle.std.proofs.lemmas.Bool.Decides.{nat_tests}
use Rattle.std.proofs.lemmas.List.Folds.{flat_map-map}
use Rattle.std.proofs.lemmas.Fmt.{length-decimal-le}
use lib.Chars.{codes}
use Rattle.roc_sequence.proofs.Holds.{all_pass}
use Rattle.roc_lang.specs.Tokens.{IsDecimal}
use Rattle.roc_lang_print.proofs.Numerals.{written_is_decimal, written_value}
use Rattle.roc_sched.specs.declared.line.Act.{Act}
use Rattle.roc_sched.specs.declared.line.Act.TheVariants.{Submit, Deliver, Any, Tick, Stop, Drain}
use Rattle.roc_sched.specs.declared.fault.What.TheVariants as what
use Rattle.roc_sched.specs.Each.{each}
use Rattle.roc_sched.specs.Words.{is_skipped}
use Rattle.roc_sched.specs.Numbers.{is_decimal, number_up_to, integer_of, is_name}
use Rattle.roc_generate.specs.Load.{forms_with}
use Rattle.roc_sched.specs.Acts.{act_of, or_word, or_node, numbered_line, line_at}
use Rattle.roc_generate.specs.ScheduleText.{act_line}
use Rattle.roc_generate.proofs.Parts.{AllAbove, IsPlainWord, some_bytes, spaced_words}

-- ---- numbers

is_number : (word : List ℕ) → IsDecimal word → is_decimal word ≡ true
is_number [] is = absurd is
is_number (d ∷ []) is = rw (is.0.0) refl
is_number (d ∷ e ∷ ds) is = rw (some_bytes e ds) (go (d == 48) refl)
  where
    go : (b : Bool) → (d == 48) ≡ b → (list_all is_ascii_digit (d ∷ e ∷ ds) && (false || not b)) ≡ true
    go true h = absurd (let none : e ∷ ds ≡ [] = is.1 (eqb-true d 48 h) in let n = ap length none in omega arith)
    go false h = rw (all_pass is_ascii_digit (d ∷ e ∷ ds) is.0) refl

number_read : (greatest n : ℕ) → n ≤ greatest → n ≤ 2 ^ 63 → number_up_to greatest (fmt.decimal n) ≡ Some n
unfolding number_up_to
number_read greatest n fits small = rw (is_number (fmt.decimal n) (written_is_decimal n small), written_value n small, le-leb n greatest fits) refl

digit_above : (d : ℕ) → is_ascii_digit d ≡ true → 47 < d
digit_above d h = grind (arith, nat_tests)

plain_read : (word : List ℕ) (n : ℕ) → IsDecimal word → number_up_to 9223372036854775807 word ≡ Some n → integer_of word ≡ Some (pos n)
unfolding integer_of
plain_read [] n is e = absurd is
plain_read (b ∷ bs) n is e = go (b == 45) refl
  where
    go : (t : Bool) → (b == 45) ≡ t → cond t (option_map (λ n. neg_ℤ (pos n)) (number_up_to 9223372036854775808 bs)) (option_map pos (number_up_to 9223372036854775807 (b ∷ bs))) ≡ Some (pos n)
    go true h = absurd (let high = digit_above b is.0.0 in let same = eqb-true b 45 h in omega arith)
    go false h = ap (option_map pos) e

-- what is drawn is not negative
abbrev pub IsPlainNumber : ℤ → Type 0
IsPlainNumber (pos n) = n < 2 ^ 63
IsPlainNumber (negsuc n) = ⊥

integer_read : (z : ℤ) → IsPlainNumber z → integer_of (fmt.signed_decimal z) ≡ Some z
integer_read (pos n) h = plain_read (fmt.decimal n) n (written_is_decimal n (omega arith)) (number_read 9223372036854775807 n (omega arith) (omega arith))
integer_read (negsuc n) h = absurd h

integers_read : (args : List ℤ) → AllByRecursion IsPlainNumber args → each integer_of (map fmt.signed_decimal args) ≡ Some args
integers_read [] all = refl
integers_read (z ∷ args) all = rw (integer_read z all.0, integers_read args all.1) refl

-- ---- words

digits_above : (ds : List ℕ) → AllByRecursion (λ c. is_ascii_digit c ≡ true) ds → AllAbove 32 ds
digits_above [] all = tt
digits_above (d ∷ ds) all = ((let high = digit_above d all.0 in omega arith), digits_above ds all.1)

decimal_part : (word : List ℕ) → IsDecimal word → IsPlainWord word
decimal_part [] is = absurd is
decimal_part (d ∷ ds) is = record { some = some_bytes d ds; above = digits_above (d ∷ ds) is.0 }

number_part : (n : ℕ) → n ≤ 2 ^ 63 → IsPlainWord (fmt.decimal n)
number_part n small = decimal_part (fmt.decimal n) (written_is_decimal n small)

integer_parts : (args : List ℤ) → AllByRecursion IsPlainNumber args → AllByRecursion IsPlainWord (map fmt.signed_decimal args)
integer_parts [] all = tt
integer_parts (pos n ∷ args) all = (number_part n (let h = all.0 in omega arith), integer_parts args all.1)
integer_parts (negsuc n ∷ args) all = absurd all.0

-- ---- acts

-- a submission at a coordinator that is there, of a name and a few small numbers
pub record IsSmallCall (at : ℕ) (called : List ℕ) (numbers : List ℤ) : Type 0 where
  pub coord : at < 16
  pub name : is_name called ≡ true
  pub part : IsPlainWord called
  pub short : length called ≤ 32
  pub args : AllByRecursion IsPlainNumber numbers
  pub few : length numbers ≤ 8

-- what is drawn: such a submission, or a choice
abbrev pub IsSmallAct : Act → Type 0
IsSmallAct (Submit coord name args) = IsSmallCall coord name args
IsSmallAct (Deliver message) = ⊥
IsSmallAct (Any place) = place < 2 ^ 32
IsSmallAct (Tick node) = ⊥
IsSmallAct (Stop shard during) = ⊥
IsSmallAct (Drain coord) = ⊥

-- the words of an act's line, which are read as it
pub record ActWords (act : Act) : Type 0 where
  pub first : List ℕ
  pub others : List (List ℕ)
  pub line : act_line act ≡ spaced_words first others ++ 10 ∷ []
  pub first_part : IsPlainWord first
  pub other_parts : AllByRecursion IsPlainWord others
  pub kept : is_skipped (spaced_words first others) ≡ false
  pub read : (stops : Bool) (shards number : ℕ) → line_at (forms_with stops) shards number (first ∷ others) ≡ Ok (record { number = number; act = act })
  pub short : length (act_line act) ≤ 220

any_read : (stops : Bool) (place : ℕ) → place < 2 ^ 32 → act_of (forms_with stops) (codes "any" ∷ fmt.decimal place ∷ []) ≡ Some (Any place)
unfolding act_of
any_read stops place small = ap (option_map Any) (number_read 4294967295 place (omega arith) (omega arith))

submit_read : (stops : Bool) (coord : ℕ) (name : List ℕ) (args : List ℤ) → coord < 16 → is_name name ≡ true → AllByRecursion IsPlainNumber args
    → act_of (forms_with stops) (codes "submit" ∷ fmt.decimal coord ∷ name ∷ map fmt.signed_decimal args) ≡ Some (Submit coord name args)
unfolding act_of
submit_read stops coord name args few named all = rw (named, number_read 9223372036854775807 coord (omega arith) (omega arith), integers_read args all) refl

any_line : (place : ℕ) → act_line (Any place) ≡ spaced_words (codes "any") (fmt.decimal place ∷ []) ++ 10 ∷ []
any_line place = simp append_assoc

args_line : (args : List ℤ) → flat_map (λ n. codes " " ++ fmt.signed_decimal n) args ≡ flat_map (λ word. 32 ∷ word) (map fmt.signed_decimal args)
args_line args = sym (flat_map-map (λ (word : List ℕ). 32 ∷ word) fmt.signed_decimal args)

joined : (a b c d e : List ℕ) → a ++ (32 ∷ []) ++ b ++ (32 ∷ []) ++ c ++ d ++ e ≡ (a ++ ((32 ∷ b) ++ ((32 ∷ c) ++ d))) ++ e
joined a b c d e = simp append_assoc

submit_line : (coord : ℕ) (name : List ℕ) (args : List ℤ) → act_line (Submit coord name args) ≡ spaced_words (codes "submit") (fmt.decimal coord ∷ name ∷ map fmt.signed_decimal args) ++ 10 ∷ []
submit_line coord name args =
    joined (codes "submit") (fmt.decimal coord) name (flat_map (λ n. codes " " ++ fmt.signed_decimal n) args) (10 ∷ [])
    ∙ ap (λ d. (codes "submit" ++ ((32 ∷ fmt.decimal coord) ++ ((32 ∷ name) ++ d))) ++ 10 ∷ []) (args_line args)

-- ---- lengths

number_short : (n : ℕ) → n < 2 ^ 63 → length (fmt.decimal n) ≤ 19
number_short n h = length-decimal-le 19 n (omega arith) (omega arith) (omega arith)

args_short : (args : List ℤ) → AllByRecursion IsPlainNumber args → length (flat_map (λ n. codes " " ++ fmt.signed_decimal n) args) ≤ 20 * length args
args_short [] all = omega arith
args_short (pos n ∷ args) all =
    let one = number_short n all.0 in
    let others = args_short args all.1 in
    let sum = length-append (32 ∷ fmt.decimal n) (flat_map (λ n. codes " " ++ fmt.signed_decimal n) args) in
    omega (arith, one, others, sum)
args_short (negsuc n ∷ args) all = absurd all.0

any_short : (place : ℕ) → place < 2 ^ 32 → length (act_line (Any place)) ≤ 220
any_short place h =
    let one = number_short place (omega arith) in
    let sum = length-append (fmt.decimal place) (10 ∷ []) in
    omega (arith, one, sum)

submit_short : (coord : ℕ) (name : List ℕ) (args : List ℤ) → IsSmallAct (Submit coord name args) → length (act_line (Submit coord name args)) ≤ 220
submit_short coord name args h =
    let few = h.coord in
    let one = number_short coord (omega arith) in
    let behind = args_short args h.args in
    let fl : List ℕ = flat_map (λ n. codes " " ++ fmt.signed_decimal n) args in
    let s1 = length-append (codes "submit " ++ fmt.decimal coord ++ codes " " ++ name ++ fl) (codes "\n") in
    let s2 = length-append (codes "submit " ++ fmt.decimal coord ++ codes " " ++ name) fl in
    let s3 = length-append (codes "submit " ++ fmt.decimal coord ++ codes " ") name in
    let s4 = length-append (codes "submit " ++ fmt.decimal coord) (codes " ") in
    let s5 = length-append (codes "submit ") (fmt.decimal coord) in
    omega (arith, one, behind, s1, s2, s3, s4, s5, h.short, h.few)

pub act_words : (act : Act) → IsSmallAct act → ActWords act
act_words (Submit coord name args) h = record {
  first = codes "submit";
  others = fmt.decimal coord ∷ name ∷ map fmt.signed_decimal args;
  line = submit_line coord name args;
  first_part = record { some = refl; above = (omega arith, (omega arith, (omega arith, (omega arith, (omega arith, (omega arith, tt)))))) };
  other_parts = (number_part coord (let few = h.coord in omega arith), (h.part, integer_parts args h.args));
  kept = refl;
  read = λ stops shards number. ap (λ o. numbered_line number (or_node (forms_with stops) shards (or_word o))) (submit_read stops coord name args h.coord h.name h.args)
      ∙ ap (λ b. numbered_line number (cond b (Ok (Submit coord name args)) (Err what.Node))) (lt-ltb coord 16 h.coord);
  short = submit_short coord name args h;
}
act_words (Any place) h = record {
  first = codes "any";
  others = fmt.decimal place ∷ [];
  line = any_line place;
  first_part = record { some = refl; above = (omega arith, (omega arith, (omega arith, tt))) };
  other_parts = (number_part place (omega arith), tt);
  kept = refl;
  read = λ stops shards number. ap (λ o. numbered_line number (or_node (forms_with stops) shards (or_word o))) (any_read stops place h);
  short = any_short place h;
}
act_words (Deliver message) h = absurd h
act_words (Tick node) h = absurd h
act_words (Stop shard during) h = absurd h
act_words (Drain coord) h = absurd h
