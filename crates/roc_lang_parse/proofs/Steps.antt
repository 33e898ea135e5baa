-- A step that is found is one, and what is a step is found.
use Rattle.std.proofs.Common.{◌≡◌, ℕ, zero, suc, ◌+◌, ◌-◌, ◌*◌, ◌^◌, ◌<◌, ◌≤◌, Bool, true, false, cond, ◌==◌, List, [], ◌∷◌, ◌++◌, length, take, drop, Option, Some, None, refl, sym, ap, subst, ◌∙◌, arith}
use Rattle.std.specs.Prelude.{nat_le}
use Rattle.std.specs.Option.{option_map}
use Rattle.std.specs.List.{AllByRecursion, fold}
use Rattle.std.specs.Char.{is_ascii_alphabetic, is_ascii_digit}
use Rattle.std.proofs.lemmas.Bool.{eqb-true, le-leb, leb-true}
use Rattle.std.proofs.lemmas.Bool.Decides.{nat_tests}
use Rattle.std.proofs.lemmas.Option.{none-some, same_Some as some_is}
use lib.Chars.{codes}
use Rattle.roc_lang.specs.declared.limits.TheConstants.{WORD_BYTES}
use Rattle.roc_lang.specs.Tokens.{Word, Integer, Mark, Token, is_word_byte, is_mark, is_blank, line_after, IsWord, decimal, IsDecimal, IsTokenEnd, IsLineEnd, IsTokenStep, blank, comment, word, integer, mark}
use Rattle.roc_lang_parse.proofs.Bytes.{one_of, letter-blank, digit-blank, digit-letter, digit-word_byte, letter-word_byte, digit_above, digit_below}
use Rattle.roc_lang_parse.specs.Scanning.{word_run, line_run, token_at, value_and, value_on, value_from, value_of, Scanned, word_next, integer_next, comment_next, scanned_step}

-- ---- runs of bytes

take_whole : (xs ys : List ℕ) → take (length xs) (xs ++ ys) ≡ xs
take_whole [] ys = refl
take_whole (x ∷ xs) ys = ap (λ zs. x ∷ zs) (take_whole xs ys)

drop_whole : (xs ys : List ℕ) → drop (length xs) (xs ++ ys) ≡ ys
drop_whole [] ys = refl
drop_whole (x ∷ xs) ys = drop_whole xs ys

take_drop : (n : ℕ) (xs : List ℕ) → xs ≡ take n xs ++ drop n xs
take_drop zero xs = refl
take_drop (suc n) [] = refl
take_drop (suc n) (x ∷ xs) = ap (λ zs. x ∷ zs) (take_drop n xs)

length_take : (n : ℕ) (xs : List ℕ) → length (take n xs) ≤ n
length_take zero xs = omega arith
length_take (suc n) [] = omega arith
length_take (suc n) (x ∷ xs) = let h = length_take n xs in omega arith

abbrev pub AllWord : List ℕ → Type 0
AllWord bs = AllByRecursion (λ b. is_word_byte b ≡ true) bs

run_whole : (letters rest : List ℕ) → AllWord letters → IsTokenEnd rest → word_run (letters ++ rest) ≡ length letters
unfolding word_run
run_whole [] [] all end = refl
run_whole [] (b ∷ rest) all end = rw end refl
run_whole (b ∷ letters) rest all end = rw all.0 (ap (λ n. suc n) (run_whole letters rest all.1 end))

run_end : (bs : List ℕ) → IsTokenEnd (drop (word_run bs) bs)
unfolding word_run
run_end [] = tt
run_end (b ∷ bs) = go (is_word_byte b) refl (run_end bs)
  where
    go : (t : Bool) → is_word_byte b ≡ t → IsTokenEnd (drop (word_run bs) bs) → IsTokenEnd (drop (cond t (suc (word_run bs)) 0) (b ∷ bs))
    go true e h = h
    go false e h = e

pub run_all : (bs : List ℕ) → AllWord (take (word_run bs) bs)
unfolding word_run
run_all [] = tt
run_all (b ∷ bs) = go (is_word_byte b) refl (run_all bs)
  where
    go : (t : Bool) → is_word_byte b ≡ t → AllWord (take (word_run bs) bs) → AllWord (take (cond t (suc (word_run bs)) 0) (b ∷ bs))
    go true e h = (e, h)
    go false e h = tt

pub run_within : (bs : List ℕ) → word_run bs ≤ length bs
unfolding word_run
run_within [] = omega arith
run_within (b ∷ bs) = go (is_word_byte b) (run_within bs)
  where
    go : (t : Bool) → word_run bs ≤ length bs → cond t (suc (word_run bs)) 0 ≤ length (b ∷ bs)
    go true h = omega arith
    go false h = omega arith

abbrev NoEnd : List ℕ → Type 0
NoEnd bs = AllByRecursion (λ b. (b == 10) ≡ false) bs

line_whole : (text rest : List ℕ) → NoEnd text → IsLineEnd rest → line_run (text ++ rest) ≡ length text
unfolding line_run
line_whole [] [] all end = refl
line_whole [] (b ∷ rest) all end = rw end refl
line_whole (b ∷ text) rest all end = rw all.0 (ap (λ n. suc n) (line_whole text rest all.1 end))

line_end : (bs : List ℕ) → IsLineEnd (drop (line_run bs) bs)
unfolding line_run
line_end [] = tt
line_end (b ∷ bs) = go (b == 10) refl (line_end bs)
  where
    go : (t : Bool) → (b == 10) ≡ t → IsLineEnd (drop (line_run bs) bs) → IsLineEnd (drop (cond t 0 (suc (line_run bs))) (b ∷ bs))
    go true e h = eqb-true b 10 e
    go false e h = h

line_all : (bs : List ℕ) → NoEnd (take (line_run bs) bs)
unfolding line_run
line_all [] = tt
line_all (b ∷ bs) = go (b == 10) refl (line_all bs)
  where
    go : (t : Bool) → (b == 10) ≡ t → NoEnd (take (line_run bs) bs) → NoEnd (take (cond t 0 (suc (line_run bs))) (b ∷ bs))
    go true e h = tt
    go false e h = (e, h)

pub line_within : (bs : List ℕ) → line_run bs ≤ length bs
unfolding line_run
line_within [] = omega arith
line_within (b ∷ bs) = go (b == 10) (line_within bs)
  where
    go : (t : Bool) → line_run bs ≤ length bs → cond t 0 (suc (line_run bs)) ≤ length (b ∷ bs)
    go true h = omega arith
    go false h = omega arith

-- ---- values

abbrev onto : ℕ → ℕ → ℕ
onto n d = n * 10 + (d - 48)

abbrev AllDigit : List ℕ → Type 0
AllDigit ds = AllByRecursion (λ d. is_ascii_digit d ≡ true) ds

fold-le : (ds : List ℕ) (n : ℕ) → n ≤ fold onto n ds
fold-le [] n = omega arith
fold-le (d ∷ ds) n = let h = fold-le ds (onto n d) in omega arith

value_taken : (n : ℕ) (ds : List ℕ) → AllDigit ds → 0 < n → fold onto n ds ≤ 2 ^ 63 → value_from n ds ≡ Some (fold onto n ds)
unfolding value_from
value_taken n [] all above fits = refl
value_taken n (d ∷ ds) all above fits =
    let positive : (n == 0) ≡ false = grind (arith, nat_tests) in
    let bound = fold-le ds (onto n d) in
    let small : onto n d ≤ 2 ^ 63 = omega arith in
    rw (all.0, positive, le-leb (onto n d) (2 ^ 63) small) (value_taken (onto n d) ds all.1 (omega arith) fits)

decimal_taken : (digits : List ℕ) → IsDecimal digits → value_of digits ≡ Some (decimal digits)
unfolding value_of value_from
decimal_taken [] is = absurd is
decimal_taken (d ∷ []) is = let value : d - 48 ≡ onto 0 d = omega arith in rw is.0.0 (ap (λ n. Some n) value)
decimal_taken (d ∷ c ∷ ds) is =
    let not_zero : d ≡ 48 → ⊥ = λ z. absurd (cc (is.1 z)) in
    let above = digit_above d is.0.0 in
    let value : d - 48 ≡ onto 0 d = omega arith in
    let positive : 0 < onto 0 d = omega (arith, not_zero) in
    rw is.0.0 (ap (λ n. value_from n (c ∷ ds)) value ∙ value_taken (onto 0 d) (c ∷ ds) is.0.1 positive is.2)

-- what is known of digits that have a value
pub record Valued (n : ℕ) (ds : List ℕ) (v : ℕ) : Type 0 where
  pub all : AllDigit ds
  pub value : v ≡ fold onto n ds
  pub fits : v ≤ 2 ^ 63
  pub alone : n ≡ 0 → ds ≡ []

value_parts : (n d : ℕ) (m : ℕ) → value_and n d ≡ Some m → (is_ascii_digit d ≡ true) × ((n == 0) ≡ false) × (m ≡ onto n d) × (m ≤ 2 ^ 63)
value_parts n d m e = go (is_ascii_digit d) (n == 0) (nat_le (onto n d) (2 ^ 63)) refl refl refl e
  where
    go : (t z l : Bool) → is_ascii_digit d ≡ t → (n == 0) ≡ z → nat_le (onto n d) (2 ^ 63) ≡ l → cond {A = Option ℕ} t (cond z None (cond l (Some (onto n d)) None)) None ≡ Some m → (is_ascii_digit d ≡ true) × ((n == 0) ≡ false) × (m ≡ onto n d) × (m ≤ 2 ^ 63)
    go false z l f g h i = absurd (none-some m i)
    go true true l f g h i = absurd (none-some m i)
    go true false false f g h i = absurd (none-some m i)
    go true false true f g h i = let same = some_is (onto n d) m i in (f, g, sym same, subst (λ k. k ≤ 2 ^ 63) same (leb-true (onto n d) (2 ^ 63) h))

value_steps : (o : Option ℕ) (ds : List ℕ) (v : ℕ) → value_on o (λ m. value_from m ds) ≡ Some v → (m : ℕ) × (o ≡ Some m) × (value_from m ds ≡ Some v)
value_steps (Some m) ds v e = (m, refl, e)
value_steps None ds v e = absurd (none-some v e)

valued : (n : ℕ) (ds : List ℕ) (v : ℕ) → n ≤ 2 ^ 63 → value_from n ds ≡ Some v → Valued n ds v
unfolding value_from
valued n [] v fits e = let same = some_is n v e in record { all = tt; value = sym same; fits = subst (λ k. k ≤ 2 ^ 63) same fits; alone = λ z. refl }
valued n (d ∷ ds) v fits e =
    let s = value_steps (value_and n d) ds v e in
    let p = value_parts n d s.0 s.1 in
    let r = valued s.0 ds v p.3 s.2 in
    let not_zero : n ≡ 0 → ⊥ = λ z. let q : (n == 0) ≡ true = ap (λ k. k == 0) z in absurd (cc (q, p.1)) in
    record { all = (p.0, r.all); value = r.value ∙ ap (λ k. fold onto k ds) p.2; fits = r.fits; alone = λ z. absurd (not_zero z) }

value_is : (digits : List ℕ) (v : ℕ) → value_of digits ≡ Some v → IsDecimal digits × (v ≡ decimal digits)
unfolding value_of
value_is [] v e = absurd (none-some v e)
value_is (d ∷ ds) v e = go (is_ascii_digit d) refl e
  where
    go : (t : Bool) → is_ascii_digit d ≡ t → cond {A = Option ℕ} t (value_from (d - 48) ds) None ≡ Some v → IsDecimal (d ∷ ds) × (v ≡ decimal (d ∷ ds))
    go false f i = absurd (none-some v i)
    go true f i =
        let small = digit_below d f in
        let fits : d - 48 ≤ 2 ^ 63 = omega arith in
        let r = valued (d - 48) ds v fits i in
        let same : d - 48 ≡ onto 0 d = omega arith in
        let value : v ≡ decimal (d ∷ ds) = r.value ∙ ap (λ k. fold onto k ds) same in
        let above = digit_above d f in
        let alone : d ≡ 48 → ds ≡ [] = λ z. r.alone (omega arith) in
        (((f, r.all), alone, subst (λ k. k ≤ 2 ^ 63) value r.fits), value)

-- ---- what is a step is found

comment_found : (line : ℕ) (text rest : List ℕ) → NoEnd text → IsLineEnd rest → scanned_step line (47 ∷ 47 ∷ (text ++ rest)) ≡ Some ([], line, rest)
unfolding scanned_step comment_next
comment_found line text rest all end = rw (line_whole text rest all end, drop_whole text rest) refl

word_all : (b : ℕ) (more : List ℕ) → is_ascii_alphabetic b ≡ true → AllWord more → AllWord (b ∷ more)
word_all b more h all = (letter-word_byte b h, all)

word_found : (line : ℕ) (letters rest : List ℕ) → IsWord letters → IsTokenEnd rest → scanned_step line (letters ++ rest) ≡ Some (token_at line (Word letters), line, rest)
unfolding scanned_step word_next
word_found line [] rest is end = absurd is
word_found line (b ∷ more) rest is end =
    let run = run_whole (b ∷ more) rest (word_all b more is.0 is.1) end in
    let fits : length (b ∷ more) ≤ WORD_BYTES = omega (arith, is.2) in
    rw (letter-blank b is.0, is.0, run, le-leb (length (b ∷ more)) WORD_BYTES fits, take_whole (b ∷ more) rest, drop_whole (b ∷ more) rest) refl

digits_word : (ds : List ℕ) → AllDigit ds → AllWord ds
digits_word [] all = tt
digits_word (d ∷ ds) all = (digit-word_byte d all.0, digits_word ds all.1)

digits_of : (digits : List ℕ) → IsDecimal digits → AllDigit digits
digits_of [] is = absurd is
digits_of (d ∷ ds) is = is.0

integer_run : (line : ℕ) (digits rest : List ℕ) → IsDecimal digits → IsTokenEnd rest → integer_next line (digits ++ rest) ≡ Some (token_at line (Integer (decimal digits)), line, rest)
unfolding integer_next
integer_run line digits rest is end =
    let run = run_whole digits rest (digits_word digits (digits_of digits is)) end in
    rw (run, take_whole digits rest, drop_whole digits rest, decimal_taken digits is) refl

integer_found : (line : ℕ) (digits rest : List ℕ) → IsDecimal digits → IsTokenEnd rest → scanned_step line (digits ++ rest) ≡ Some (token_at line (Integer (decimal digits)), line, rest)
unfolding scanned_step
integer_found line [] rest is end = absurd is
integer_found line (d ∷ ds) rest is end = rw (digit-blank d is.0.0, digit-letter d is.0.0, is.0.0) (integer_run line (d ∷ ds) rest is end)

mark_found : (line b : ℕ) (rest : List ℕ) → is_mark b ≡ true → scanned_step line (b ∷ rest) ≡ Some (token_at line (Mark b), line, rest)
unfolding scanned_step
mark_found line b rest h = one_of (λ m. scanned_step line (m ∷ rest) ≡ Some (token_at line (Mark m), line, rest)) (codes "{}()[],;.=+-*") b (refl, (refl, (refl, (refl, (refl, (refl, (refl, (refl, (refl, (refl, (refl, (refl, (refl, tt))))))))))))) h

blank_found : (line b : ℕ) (rest : List ℕ) → is_blank b ≡ true → scanned_step line (b ∷ rest) ≡ Some ([], line_after line b, rest)
unfolding scanned_step
blank_found line b rest h = rw h refl

pub next_found : {line : ℕ} {bytes : List ℕ} {ts : List Token} {after : ℕ} {rest : List ℕ} → IsTokenStep line bytes ts after rest → scanned_step line bytes ≡ Some (ts, after, rest)
next_found (blank {line = line} {b = b} {rest = rest} h) = blank_found line b rest h
next_found (comment {line = line} {rest = rest} text e all end) = ap (scanned_step line) e ∙ comment_found line text rest all end
next_found (word {line = line} {rest = rest} letters e is end) = ap (scanned_step line) e ∙ word_found line letters rest is end
next_found (integer {line = line} {rest = rest} digits e is end) = ap (scanned_step line) e ∙ integer_found line digits rest is end
next_found (mark {line = line} {b = b} {rest = rest} h) = mark_found line b rest h

-- ---- a step that is found is one

made : (line : ℕ) (bytes : List ℕ) (x y : List Token × ℕ × List ℕ) → ◌≡◌ {A = Scanned} (Some x) (Some y) → IsTokenStep line bytes x.0 x.1 x.2 → IsTokenStep line bytes y.0 y.1 y.2
made line bytes x y e n = subst (λ (z : List Token × ℕ × List ℕ). IsTokenStep line bytes z.0 z.1 z.2) (some_is x y e) n

word_is : (line b : ℕ) (bs : List ℕ) (y : List Token × ℕ × List ℕ) → is_ascii_alphabetic b ≡ true → word_next line (b ∷ bs) ≡ Some y → IsTokenStep line (b ∷ bs) y.0 y.1 y.2
unfolding word_next word_run
word_is line b bs y h e = go (is_word_byte b) (letter-word_byte b h) e
  where
    go : (t : Bool) → t ≡ true → cond {A = Scanned} (nat_le (cond t (suc (word_run bs)) 0) WORD_BYTES) (Some (token_at line (Word (take (cond t (suc (word_run bs)) 0) (b ∷ bs))), line, drop (cond t (suc (word_run bs)) 0) (b ∷ bs))) None ≡ Some y → IsTokenStep line (b ∷ bs) y.0 y.1 y.2
    go false g i = absurd cc
    go true g i = fit (nat_le (suc (word_run bs)) WORD_BYTES) refl i
      where
        fit : (l : Bool) → nat_le (suc (word_run bs)) WORD_BYTES ≡ l → cond {A = Scanned} l (Some (token_at line (Word (b ∷ take (word_run bs) bs)), line, drop (word_run bs) bs)) None ≡ Some y → IsTokenStep line (b ∷ bs) y.0 y.1 y.2
        fit false l j = absurd (none-some y j)
        fit true l j =
            let short = leb-true (suc (word_run bs)) WORD_BYTES l in
            let n = length_take (word_run bs) bs in
            let below : length (take (word_run bs) bs) < WORD_BYTES = omega arith in
            made line (b ∷ bs) (token_at line (Word (b ∷ take (word_run bs) bs)), line, drop (word_run bs) bs) y j (word (b ∷ take (word_run bs) bs) (ap (λ z. b ∷ z) (take_drop (word_run bs) bs)) (h, run_all bs, below) (run_end bs))

integer_is : (line : ℕ) (bytes : List ℕ) (y : List Token × ℕ × List ℕ) → integer_next line bytes ≡ Some y → IsTokenStep line bytes y.0 y.1 y.2
unfolding integer_next
integer_is line bytes y e = go (value_of (take (word_run bytes) bytes)) refl e
  where
    go : (o : Option ℕ) → value_of (take (word_run bytes) bytes) ≡ o → option_map (λ n. (token_at line (Integer n), line, drop (word_run bytes) bytes)) o ≡ Some y → IsTokenStep line bytes y.0 y.1 y.2
    go None f i = absurd (none-some y i)
    go (Some v) f i =
        let d = value_is (take (word_run bytes) bytes) v f in
        let same = ap (λ n. Some (token_at line (Integer n), line, drop (word_run bytes) bytes)) d.1 in
        made line bytes (token_at line (Integer (decimal (take (word_run bytes) bytes))), line, drop (word_run bytes) bytes) y (sym same ∙ i) (integer (take (word_run bytes) bytes) (take_drop (word_run bytes) bytes) d.0 (run_end bytes))

comment_is : (line : ℕ) (bs : List ℕ) (y : List Token × ℕ × List ℕ) → comment_next line bs ≡ Some y → IsTokenStep line (47 ∷ bs) y.0 y.1 y.2
unfolding comment_next
comment_is line [] y e = absurd (none-some y e)
comment_is line (b ∷ bs) y e = go (b == 47) refl e
  where
    go : (t : Bool) → (b == 47) ≡ t → cond {A = Scanned} t (Some ([], line, drop (line_run bs) bs)) None ≡ Some y → IsTokenStep line (47 ∷ b ∷ bs) y.0 y.1 y.2
    go false f i = absurd (none-some y i)
    go true f i = made line (47 ∷ b ∷ bs) ([], line, drop (line_run bs) bs) y i (comment (take (line_run bs) bs) (ap (λ c. 47 ∷ c ∷ bs) (eqb-true b 47 f) ∙ ap (λ z. 47 ∷ 47 ∷ z) (take_drop (line_run bs) bs)) (line_all bs) (line_end bs))

byte_is : (line b : ℕ) (bs : List ℕ) (y : List Token × ℕ × List ℕ) → scanned_step line (b ∷ bs) ≡ Some y → IsTokenStep line (b ∷ bs) y.0 y.1 y.2
unfolding scanned_step
byte_is line b bs y e = go (is_blank b) (is_ascii_alphabetic b) (is_ascii_digit b) (b == 47) (is_mark b) refl refl refl refl refl e
  where
    go : (k a d s m : Bool) → is_blank b ≡ k → is_ascii_alphabetic b ≡ a → is_ascii_digit b ≡ d → (b == 47) ≡ s → is_mark b ≡ m
        → cond {A = Scanned} k (Some ([], line_after line b, bs)) (cond a (word_next line (b ∷ bs)) (cond d (integer_next line (b ∷ bs)) (cond s (comment_next line bs) (cond m (Some (token_at line (Mark b), line, bs)) None)))) ≡ Some y
        → IsTokenStep line (b ∷ bs) y.0 y.1 y.2
    go true a d s m hk ha hd hs hm i = made line (b ∷ bs) ([], line_after line b, bs) y i (blank hk)
    go false true d s m hk ha hd hs hm i = word_is line b bs y ha i
    go false false true s m hk ha hd hs hm i = integer_is line (b ∷ bs) y i
    go false false false true m hk ha hd hs hm i = subst (λ c. IsTokenStep line (c ∷ bs) y.0 y.1 y.2) (sym (eqb-true b 47 hs)) (comment_is line bs y i)
    go false false false false true hk ha hd hs hm i = made line (b ∷ bs) (token_at line (Mark b), line, bs) y i (mark hm)
    go false false false false false hk ha hd hs hm i = absurd (none-some y i)

pub next_is : (line : ℕ) (bytes : List ℕ) (y : List Token × ℕ × List ℕ) → scanned_step line bytes ≡ Some y → IsTokenStep line bytes y.0 y.1 y.2
unfolding scanned_step
next_is line [] y e = absurd (none-some y e)
next_is line (b ∷ bs) y e = byte_is line b bs y e
