-- Bytes are at least as many as their tokens
use Rattle.std.proofs.Common.{◌≡◌, ℕ, ◌+◌, ◌<◌, ◌≤◌, List, [], ◌∷◌, ◌++◌, length, ap, ◌∙◌, arith}
use Rattle.std.proofs.lemmas.List.{length-append}
use lib.Chars.{codes}
use Rattle.roc_lang.specs.Tokens.{Token, IsWord, IsDecimal, IsTokenStep, IsTokens}
use Rattle.roc_lang.specs.Tokens as tokens

some_letter : (letters : List ℕ) → IsWord letters → 0 < length letters
some_letter [] word = absurd word
some_letter (b ∷ bs) word = omega arith

some_digit : (digits : List ℕ) → IsDecimal digits → 0 < length digits
some_digit [] number = absurd number
some_digit (d ∷ ds) number = omega arith

behind : (front rest bytes : List ℕ) → bytes ≡ front ++ rest → 0 < length front → 1 + length rest ≤ length bytes
behind front rest bytes is some = let same : length bytes ≡ length front + length rest = ap length is ∙ length-append front rest in omega arith

pub step_takes : {line after : ℕ} {bytes rest : List ℕ} {some : List Token} → IsTokenStep line bytes some after rest → length some + length rest ≤ length bytes
step_takes (tokens.blank b) = omega arith
step_takes (tokens.comment {bytes = bytes} {rest = rest} text is clear end) =
    let same : length bytes ≡ 2 + length (text ++ rest) = ap length is ∙ length-append (codes "//") (text ++ rest) in
    let more : length (text ++ rest) ≡ length text + length rest = length-append text rest in
    omega arith
step_takes (tokens.word {bytes = bytes} {rest = rest} letters is word end) = behind letters rest bytes is (some_letter letters word)
step_takes (tokens.integer {bytes = bytes} {rest = rest} digits is number end) = behind digits rest bytes is (some_digit digits number)
step_takes (tokens.mark m) = omega arith

pub few_tokens : {line : ℕ} {bytes : List ℕ} {all : List Token} → IsTokens line bytes all → length all ≤ length bytes
few_tokens tokens.nothing = omega arith
few_tokens (tokens.step {bytes = bytes} {rest = rest} {some = some} {others = others} first rest_are) =
    let begin : length some + length rest ≤ length bytes = step_takes first in
    let end : length others ≤ length rest = few_tokens rest_are in
    let all : length (some ++ others) ≡ length some + length others = length-append some others in
    omega arith
