-- Parts between separators, first part first, and the lines that they are.
use Rattle.std.proofs.Common.{◌≡◌, ℕ, ◌+◌, ◌≤◌, Bool, true, false, not, ◌==◌, cond, List, [], ◌∷◌, ◌++◌, length, take, drop, Some, None, refl, sym, ap, subst, ◌∙◌, arith}
use Rattle.std.specs.Prelude.{nat_lt, position}
use Rattle.std.specs.List.{slice_split, onto_first, position_or_len}
use Rattle.std.proofs.lemmas.Bool.{ltb-true, ltb-false}
use Rattle.std.proofs.lemmas.Option.{same_Some, none-some}
use Rattle.std.proofs.lemmas.List.Splits.{slice_split_first}
use Rattle.roc_sched.specs.Lines.{line_feed, is_empty, parts_of, without_return, ended, lines_of}

-- ---- the first part

whole : (p : ℕ → Bool) (xs : List ℕ) → length xs ≤ position_or_len p xs → slice_split p xs ≡ xs ∷ []
whole p [] h = refl
whole p (x ∷ xs) h = go (p x) refl h (whole p xs)
  where
    go : (b : Bool) → p x ≡ b → length (x ∷ xs) ≤ cond (not b) (1 + position_or_len p xs) 0 → (length xs ≤ position_or_len p xs → slice_split p xs ≡ xs ∷ []) → cond b ([] ∷ slice_split p xs) (onto_first x (slice_split p xs)) ≡ (x ∷ xs) ∷ []
    go true e long others = absurd (omega (arith, long))
    go false e long others = ap (λ parts. onto_first x parts) (others (omega (arith, long)))

-- up to the first separator, and behind it
pub cut_found : (s at : ℕ) (xs : List ℕ) → position (λ b. b == s) xs ≡ Some at → parts_of s xs ≡ take at xs ∷ parts_of s (drop (at + 1) xs)
cut_found s at xs e = go (nat_lt (position_or_len (λ b. b == s) xs) (length xs)) refl e
  where
    go : (b : Bool) → nat_lt (position_or_len (λ b. b == s) xs) (length xs) ≡ b → cond b (Some (position_or_len (λ b. b == s) xs)) None ≡ Some at → parts_of s xs ≡ take at xs ∷ parts_of s (drop (at + 1) xs)
    go true h is =
        subst (λ n. parts_of s xs ≡ take n xs ∷ parts_of s (drop (n + 1) xs)) (same_Some _ _ is) (slice_split_first (λ b. b == s) xs 0 (ltb-true _ _ h))
    go false h is = absurd (none-some at is)

pub cut_none : (s : ℕ) (xs : List ℕ) → position (λ b. b == s) xs ≡ None → parts_of s xs ≡ xs ∷ []
cut_none s xs e = go (nat_lt (position_or_len (λ b. b == s) xs) (length xs)) refl e
  where
    go : (b : Bool) → nat_lt (position_or_len (λ b. b == s) xs) (length xs) ≡ b → cond b (Some (position_or_len (λ b. b == s) xs)) None ≡ None → parts_of s xs ≡ xs ∷ []
    go true h is = absurd (none-some (position_or_len (λ b. b == s) xs) (sym is))
    go false h is = whole (λ b. b == s) xs (ltb-false _ _ h)

-- ---- lines

-- there is a part
record HasPart (parts : List (List ℕ)) : Type 0 where
  part : List ℕ
  others : List (List ℕ)
  is : parts ≡ part ∷ others

onto_part : (x : ℕ) (parts : List (List ℕ)) → HasPart (onto_first x parts)
onto_part x [] = record { part = x ∷ []; others = []; is = refl }
onto_part x (p ∷ ps) = record { part = x ∷ p; others = ps; is = refl }

some_part : (p : ℕ → Bool) (xs : List ℕ) → HasPart (slice_split p xs)
some_part p [] = record { part = []; others = []; is = refl }
some_part p (x ∷ xs) = go (p x)
  where
    go : (b : Bool) → HasPart (cond b ([] ∷ slice_split p xs) (onto_first x (slice_split p xs)))
    go true = record { part = []; others = slice_split p xs; is = refl }
    go false = onto_part x (slice_split p xs)

ended-more : (line : List ℕ) (parts : List (List ℕ)) → HasPart parts → ended (line ∷ parts) ≡ without_return line ∷ ended parts
ended-more line parts h = subst (λ ps. ended (line ∷ ps) ≡ without_return line ∷ ended ps) (sym h.is) refl

-- a line that a line feed ends
pub lines_more : (text line rest : List ℕ) → parts_of line_feed text ≡ line ∷ parts_of line_feed rest → lines_of text ≡ without_return line ∷ lines_of rest
unfolding lines_of
lines_more text line rest e = ap (λ parts. ended parts) e ∙ ended-more line (parts_of line_feed rest) (some_part (λ b. b == line_feed) rest)

-- a last line
pub lines_last : (text line : List ℕ) → parts_of line_feed text ≡ line ∷ [] → is_empty line ≡ false → lines_of text ≡ line ∷ lines_of []
unfolding lines_of
lines_last text line e some = ap (λ parts. ended parts) e ∙ ap (λ b. cond b [] (line ∷ [])) some

pub lines_end : (text line : List ℕ) → parts_of line_feed text ≡ line ∷ [] → is_empty line ≡ true → lines_of text ≡ []
unfolding lines_of
lines_end text line e none = ap (λ parts. ended parts) e ∙ ap (λ b. cond b [] (line ∷ [])) none

-- ---- carriage returns

pub without_return-cr : (front : List ℕ) (b : ℕ) → (b == 13) ≡ true → without_return (front ++ b ∷ []) ≡ front
without_return-cr [] b e = ap (λ t. cond t [] (b ∷ [])) e
without_return-cr (x ∷ []) b e = ap (λ bs. x ∷ bs) (without_return-cr [] b e)
without_return-cr (x ∷ y ∷ front) b e = ap (λ bs. x ∷ bs) (without_return-cr (y ∷ front) b e)

pub without_return-other : (front : List ℕ) (b : ℕ) → (b == 13) ≡ false → without_return (front ++ b ∷ []) ≡ front ++ b ∷ []
without_return-other [] b e = ap (λ t. cond t [] (b ∷ [])) e
without_return-other (x ∷ []) b e = ap (λ bs. x ∷ bs) (without_return-other [] b e)
without_return-other (x ∷ y ∷ front) b e = ap (λ bs. x ∷ bs) (without_return-other (y ∷ front) b e)
