-- Words with spaces between, and lines that a line feed ends, are cut where they were joined.
use Rattle.std.proofs.Common.{◌≡◌, ℕ, ◌<◌, ◌≤◌, Bool, true, false, not, ◌==◌, cond, List, [], ◌∷◌, ◌++◌, length, filter, flat_map, append-nil, refl, sym, ap, subst, ◌∙◌, arith}
use Rattle.std.specs.List.{AllByRecursion, onto_first}
use Rattle.std.proofs.lemmas.Bool.{eqb-true, eq-eqb}
use Rattle.std.proofs.lemmas.List.Splits.{slice_split-cons_yes, slice_split-cons_no}
use Rattle.roc_sched.specs.Lines.{is_empty, parts_of, without_return, lines_of}
use Rattle.roc_sched.specs.Words.{words_of}
use Rattle.roc_sched.proofs.Cuts.{lines_more}

-- each byte is above this one
abbrev pub AllAbove : ℕ → List ℕ → Type 0
AllAbove least bytes = AllByRecursion (λ b. least < b) bytes

pub above_both : (least : ℕ) (some others : List ℕ) → AllAbove least some → AllAbove least others → AllAbove least (some ++ others)
above_both least [] others all behind = behind
above_both least (b ∷ some) others all behind = (all.0, above_both least some others all.1 behind)

pub above_less : (least less : ℕ) (bytes : List ℕ) → less ≤ least → AllAbove least bytes → AllAbove less bytes
above_less least less [] h all = tt
above_less least less (b ∷ bytes) h all = ((let one = all.0 in omega arith), above_less least less bytes h all.1)

unlike : (s b : ℕ) → s < b → (b == s) ≡ false
unlike s b h = go (b == s) refl
  where
    go : (t : Bool) → (b == s) ≡ t → t ≡ false
    go true e = absurd (let same = eqb-true b s e in omega arith)
    go false e = refl

-- ---- parts

cut_at : (s : ℕ) (front rest : List ℕ) → AllAbove s front → parts_of s (front ++ s ∷ rest) ≡ front ∷ parts_of s rest
cut_at s [] rest all = slice_split-cons_yes (λ b. b == s) s rest (eq-eqb s s refl)
cut_at s (b ∷ front) rest all = slice_split-cons_no (λ b. b == s) b (front ++ s ∷ rest) (unlike s b all.0) ∙ ap (onto_first b) (cut_at s front rest all.1)

uncut : (s : ℕ) (bytes : List ℕ) → AllAbove s bytes → parts_of s bytes ≡ bytes ∷ []
uncut s [] all = refl
uncut s (b ∷ bytes) all = slice_split-cons_no (λ b. b == s) b bytes (unlike s b all.0) ∙ ap (onto_first b) (uncut s bytes all.1)

-- ---- words

pub record IsPlainWord (word : List ℕ) : Type 0 where
  pub some : is_empty word ≡ false
  pub above : AllAbove 32 word

pub some_bytes : (b : ℕ) (bytes : List ℕ) → is_empty (b ∷ bytes) ≡ false
some_bytes b bytes = go (is_empty (b ∷ bytes)) refl
  where
    go : (t : Bool) → is_empty (b ∷ bytes) ≡ t → t ≡ false
    go true e = absurd (let none = eqb-true (length (b ∷ bytes)) 0 e in omega arith)
    go false e = refl

-- words with a space before each but the first
abbrev pub spaced_words : (first : List ℕ) (others : List (List ℕ)) → List ℕ
spaced_words first others = first ++ flat_map (λ word. 32 ∷ word) others

spaced_parts : (first : List ℕ) (others : List (List ℕ)) → IsPlainWord first → AllByRecursion IsPlainWord others → parts_of 32 (spaced_words first others) ≡ first ∷ others
spaced_parts first [] is all = ap (parts_of 32) (append-nil first) ∙ uncut 32 first is.above
spaced_parts first (second ∷ others) is all = cut_at 32 first (spaced_words second others) is.above ∙ ap (λ parts. first ∷ parts) (spaced_parts second others all.0 all.1)

none_empty : (parts : List (List ℕ)) → AllByRecursion IsPlainWord parts → filter (λ word. not (is_empty word)) parts ≡ parts
none_empty [] all = refl
none_empty (part ∷ parts) all = ap (λ b. cond (not b) (part ∷ filter (λ word. not (is_empty word)) parts) (filter (λ word. not (is_empty word)) parts)) all.0.some ∙ ap (λ ps. part ∷ ps) (none_empty parts all.1)

pub words_read : (first : List ℕ) (others : List (List ℕ)) → IsPlainWord first → AllByRecursion IsPlainWord others → words_of (spaced_words first others) ≡ first ∷ others
unfolding words_of
words_read first others is all = ap (filter (λ word. not (is_empty word))) (spaced_parts first others is all) ∙ none_empty (first ∷ others) (is, all)

pub spaced_above : (first : List ℕ) (others : List (List ℕ)) → IsPlainWord first → AllByRecursion IsPlainWord others → AllAbove 31 (spaced_words first others)
spaced_above first [] is all = subst (AllAbove 31) (sym (append-nil first)) (above_less 32 31 first (omega arith) is.above)
spaced_above first (second ∷ others) is all = above_both 31 first (32 ∷ spaced_words second others) (above_less 32 31 first (omega arith) is.above) (omega arith, spaced_above second others all.0 all.1)

-- ---- lines

no_return : (line : List ℕ) → AllAbove 31 line → without_return line ≡ line
no_return [] all = refl
no_return (b ∷ []) all = ap (λ t. cond t [] (b ∷ [])) (unlike 13 b (let one = all.0 in omega arith))
no_return (b ∷ c ∷ line) all = ap (λ bytes. b ∷ bytes) (no_return (c ∷ line) all.1)

pub line_read : (line rest : List ℕ) → AllAbove 31 line → lines_of (line ++ 10 ∷ rest) ≡ line ∷ lines_of rest
line_read line rest all =
    lines_more (line ++ 10 ∷ rest) line rest (cut_at 10 line rest (above_less 31 10 line (omega arith) all)) ∙ ap (λ l. l ∷ lines_of rest) (no_return line all)
