-- A word that passes the test of names is a name of the language of workloads, and the other way round.
use Rattle.std.proofs.Common.{◌≡◌, ℕ, Bool, true, false, not, ◌&&◌, List, [], ◌∷◌, length, refl, arith}
use Rattle.std.specs.Prelude.{nat_lt}
use Rattle.std.specs.List.{list_all, AllByRecursion}
use Rattle.std.specs.Char.{is_ascii_alphabetic}
use Rattle.std.proofs.lemmas.Bool.{ltb-true, ltb-false}
use Rattle.roc_sequence.proofs.Holds.{all_pass as pass_all}
use Rattle.roc_lang.specs.Tokens.{is_word_byte, IsWord}
use Rattle.roc_lang.specs.Grammar.{is_reserved}
use Rattle.roc_sched.specs.Numbers.{is_name}

all_pass : {A : Type 0} (test : A → Bool) (xs : List A) → list_all test xs ≡ true → AllByRecursion (λ x. test x ≡ true) xs
all_pass test [] e = tt
all_pass test (x ∷ xs) e = go (test x) refl e (all_pass test xs)
  where
    go : (b : Bool) → test x ≡ b → (b && list_all test xs) ≡ true → (list_all test xs ≡ true → AllByRecursion (λ x. test x ≡ true) xs) → AllByRecursion (λ x. test x ≡ true) (x ∷ xs)
    go true h rest others = (h, others rest)
    go false h rest others = absurd (cc)

pub name_parts : (word : List ℕ) → is_name word ≡ true → IsWord word × (is_reserved word ≡ false)
unfolding is_name
name_parts [] e = absurd (cc)
name_parts (b ∷ bs) e = go (is_ascii_alphabetic b) (list_all is_word_byte bs) (nat_lt (length bs) 32) (is_reserved (b ∷ bs)) refl refl refl refl e
  where
    go : (p q r s : Bool) → is_ascii_alphabetic b ≡ p → list_all is_word_byte bs ≡ q → nat_lt (length bs) 32 ≡ r → is_reserved (b ∷ bs) ≡ s
        → (p && q && r && not s) ≡ true → IsWord (b ∷ bs) × (is_reserved (b ∷ bs) ≡ false)
    go true true true false hp hq hr hs is = ((hp, all_pass is_word_byte bs hq, ltb-true (length bs) 32 hr), hs)
    go true true true true hp hq hr hs is = absurd (cc)
    go true true false s hp hq hr hs is = absurd (cc)
    go true false r s hp hq hr hs is = absurd (cc)
    go false q r s hp hq hr hs is = absurd (cc)

pub parts_name : (word : List ℕ) → IsWord word → is_reserved word ≡ false → is_name word ≡ true
unfolding is_name
parts_name [] w free = absurd w
parts_name (b ∷ bs) w free = go (nat_lt (length bs) 32) refl
  where
    go : (r : Bool) → nat_lt (length bs) 32 ≡ r → (is_ascii_alphabetic b && list_all is_word_byte bs && nat_lt (length bs) 32 && not (is_reserved (b ∷ bs))) ≡ true
    go true h = rw (w.0, pass_all is_word_byte bs w.1, h, free) refl
    go false h = absurd (let long = ltb-false (length bs) 32 h in omega (arith, long, w.2))
