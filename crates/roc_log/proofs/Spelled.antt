-- Words with spaces between, and lines that a line feed ends, are cut where they were joined; and bytes are read of their digits.
use Rattle.std.proofs.Common.{◌≡◌, ℕ, zero, suc, ◌+◌, ◌/◌, ◌%◌, ◌<◌, Bool, true, false, not, ◌&&◌, ◌==◌, cond, List, [], ◌∷◌, ◌++◌, append_assoc, map, flat_map, append-nil, slice_index, Some, None, refl, sym, ap, subst, ◌∙◌, arith}
use Rattle.std.specs.Prelude.{nat_lt}
use Rattle.std.specs.List.{AllByRecursion, list_all, onto_first}
use Rattle.std.proofs.lemmas.Bool.{eqb-true, eq-eqb, and_parts, ltb-true, true≢false}
use Rattle.std.proofs.lemmas.List.Splits.{slice_split-cons_yes, slice_split-cons_no}
use Rattle.hex.specs.Hex.{IsBytes, encode_with, encode_lower, lower_digits, decode_of}
use Rattle.hex.proofs.HexLemmas.{decode_of-encode_lower}
use Rattle.roc_sched.specs.Lines.{parts_of}
use Rattle.roc_log.specs.LogLine.{spaced}
use Rattle.roc_log.specs.Words.{without_empty_last, log_lines, is_capital, decoded, hex_bytes}
use Rattle.roc_log.proofs.LineParts.{last_decides}
use Rattle.roc_log.proofs.Numerals.{AllAbove, above_less}

above_both : (least : ℕ) (some others : List ℕ) → AllAbove least some → AllAbove least others → AllAbove least (some ++ others)
above_both least [] others all behind = behind
above_both least (b ∷ some) others all behind = (all.0, above_both least some others all.1 behind)

unlike : (s b : ℕ) → s < b → (b == s) ≡ false
unlike s b h = go (b == s) refl
  where
    go : (t : Bool) → (b == s) ≡ t → t ≡ false
    go true e = absurd (let same = eqb-true b s e in omega (arith, same, h))
    go false e = refl

-- ---- parts

pub cut_at : (s : ℕ) (front rest : List ℕ) → AllAbove s front → parts_of s (front ++ s ∷ rest) ≡ front ∷ parts_of s rest
cut_at s [] rest all = slice_split-cons_yes (λ b. b == s) s rest (eq-eqb s s refl)
cut_at s (b ∷ front) rest all = slice_split-cons_no (λ b. b == s) b (front ++ s ∷ rest) (unlike s b all.0) ∙ ap (onto_first b) (cut_at s front rest all.1)

pub uncut : (s : ℕ) (bytes : List ℕ) → AllAbove s bytes → parts_of s bytes ≡ bytes ∷ []
uncut s [] all = refl
uncut s (b ∷ bytes) all = slice_split-cons_no (λ b. b == s) b bytes (unlike s b all.0) ∙ ap (onto_first b) (uncut s bytes all.1)

-- ---- words

pub words_cut : (first : List ℕ) (others : List (List ℕ)) → AllAbove 32 first → AllByRecursion (AllAbove 32) others → parts_of 32 (spaced first others) ≡ first ∷ others
words_cut first [] is all = ap (parts_of 32) (append-nil first) ∙ uncut 32 first is
words_cut first (second ∷ others) is all = cut_at 32 first (spaced second others) is ∙ ap (λ parts. first ∷ parts) (words_cut second others all.0 all.1)

pub spaced_above : (first : List ℕ) (others : List (List ℕ)) → AllAbove 32 first → AllByRecursion (AllAbove 32) others → AllAbove 10 (spaced first others)
spaced_above first [] is all = subst (AllAbove 10) (sym (append-nil first)) (above_less 32 10 first (omega arith) is)
spaced_above first (second ∷ others) is all = above_both 10 first (32 ∷ spaced second others) (above_less 32 10 first (omega arith) is) (omega arith, spaced_above second others all.0 all.1)

-- ---- lines

module _ {A : Type 0} (raw : A → List ℕ) where
  -- lines one after the other, each with a line feed
  abbrev pub joined : List A → List ℕ
  joined lines = flat_map (λ line. raw line ++ 10 ∷ []) lines

  one_line : (line : A) (rest : List ℕ) → (raw line ++ 10 ∷ []) ++ rest ≡ raw line ++ 10 ∷ rest
  one_line line rest = append_assoc (raw line) (10 ∷ []) rest

  pub lines_cut : (lines : List A) → AllByRecursion (λ line. AllAbove 10 (raw line)) lines → parts_of 10 (joined lines) ≡ map raw lines ++ [] ∷ []
  lines_cut [] all = refl
  lines_cut (line ∷ lines) all =
      ap (parts_of 10) (one_line line (joined lines)) ∙ cut_at 10 (raw line) (joined lines) all.0 ∙ ap (λ parts. raw line ∷ parts) (lines_cut lines all.1)

  pub lines_told : (first : List ℕ) (lines : List A) → AllAbove 10 first → AllByRecursion (λ line. AllAbove 10 (raw line)) lines
      → log_lines ((first ++ 10 ∷ []) ++ joined lines) ≡ first ∷ map raw lines
  unfolding log_lines
  lines_told first lines is all =
      let cut : parts_of 10 ((first ++ 10 ∷ []) ++ joined lines) ≡ (first ∷ map raw lines) ++ [] ∷ [] =
      ap (parts_of 10) (append_assoc first (10 ∷ []) (joined lines)) ∙ cut_at 10 first (joined lines) is ∙ ap (λ parts. first ∷ parts) (lines_cut lines all) in
      ap without_empty_last cut ∙ last_decides (first ∷ map raw lines) []

-- ---- digits of bytes

-- the digit at a place is no capital, and above a space
abbrev is_plain : ℕ → Bool
is_plain d = not (is_capital (slice_index lower_digits d)) && nat_lt 32 (slice_index lower_digits d)

abbrev all_plain : ℕ → Bool
all_plain zero = true
all_plain (suc n) = is_plain n && all_plain n

plain_below : (n d : ℕ) → all_plain n ≡ true → d < n → is_plain d ≡ true
plain_below zero d h below = absurd (omega (arith, below))
plain_below (suc n) d h below = go (d == n) refl (plain_below n d (and_parts (is_plain n) (all_plain n) h).1)
  where
    go : (t : Bool) → (d == n) ≡ t → (d < n → is_plain d ≡ true) → is_plain d ≡ true
    go true e others = subst (λ k. is_plain k ≡ true) (sym (eqb-true d n e)) (and_parts (is_plain n) (all_plain n) h).0
    go false e others = others (let other : (d ≡ n) → ⊥ = λ same. true≢false (sym (eq-eqb d n same) ∙ e) in omega (arith, below, other))

sixteen_plain : all_plain 16 ≡ true
sixteen_plain = refl

digit_parts : (d : ℕ) → d < 16 → (not (is_capital (slice_index lower_digits d)) ≡ true) × (32 < slice_index lower_digits d)
digit_parts d h =
    let both = and_parts (not (is_capital (slice_index lower_digits d))) (nat_lt 32 (slice_index lower_digits d)) (plain_below 16 d sixteen_plain h) in
    (both.0, ltb-true 32 (slice_index lower_digits d) both.1)

both_hold : (a b : Bool) → a ≡ true → b ≡ true → (a && b) ≡ true
both_hold true b h k = k
both_hold false b h k = h

abbrev no_capital : ℕ → Bool
no_capital b = not (is_capital b)

no_capitals : (bytes : List ℕ) → IsBytes bytes → list_all no_capital (encode_lower bytes) ≡ true
unfolding encode_with
no_capitals [] fit = refl
no_capitals (b ∷ bytes) fit =
    let small : b < 256 = fit 0 in
    both_hold (no_capital (slice_index lower_digits (b / 16))) (no_capital (slice_index lower_digits (b % 16)) && list_all no_capital (encode_lower bytes))
    (digit_parts (b / 16) (omega (arith, small))).0
    (both_hold (no_capital (slice_index lower_digits (b % 16))) (list_all no_capital (encode_lower bytes)) (digit_parts (b % 16) (omega (arith, small))).0 (no_capitals bytes (λ k. fit (suc k))))

pub hex_above : (bytes : List ℕ) → IsBytes bytes → AllAbove 32 (encode_lower bytes)
unfolding encode_with
hex_above [] fit = tt
hex_above (b ∷ bytes) fit =
    let small : b < 256 = fit 0 in
    ((digit_parts (b / 16) (omega (arith, small))).1, ((digit_parts (b % 16) (omega (arith, small))).1, hex_above bytes (λ k. fit (suc k))))

pub hex_read : (bytes : List ℕ) → IsBytes bytes → hex_bytes (encode_lower bytes) ≡ Some bytes
unfolding hex_bytes
hex_read bytes fit =
    ap (λ b. cond b (decoded (decode_of (encode_lower bytes))) None) (no_capitals bytes fit) ∙ ap decoded (decode_of-encode_lower bytes fit)
