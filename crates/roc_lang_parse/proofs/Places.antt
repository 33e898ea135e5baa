-- Tokens up to a place, and tokens of the whole.
use Rattle.std.proofs.Common.{◌≡◌, ℕ, ◌+◌, ◌<◌, ◌==◌, cond, Bool, true, false, List, [], ◌∷◌, ◌++◌, length, None, refl, sym, ap, subst, ◌∙◌, append_assoc, length-append, arith}
use Rattle.std.proofs.lemmas.List.{append-nil}
use Rattle.std.proofs.lemmas.Option.{none-some, same_Some as some_is}
use Rattle.roc_lang.specs.Tokens as tokens
use Rattle.roc_lang.specs.Tokens.{Token, IsTokenStep, IsTokens, nothing, step}
use Rattle.roc_lang_parse.specs.Lexed.{IsLexed, here, further, IsBroken}
use Rattle.roc_lang_parse.specs.Scanning.{scanned_step}
use Rattle.roc_lang_parse.proofs.Steps.{next_found}

pub tokens_before : {line : ℕ} {bytes : List ℕ} {ts : List Token} {after : ℕ} {rest : List ℕ} → IsLexed line bytes ts after rest → (us : List Token) → IsTokens after rest us → IsTokens line bytes (ts ++ us)
tokens_before here us t = t
tokens_before (further {line = line} {bytes = bytes} {tokens = ts} {next = next} p n) us t = subst (λ z. IsTokens line bytes z) (sym (append_assoc ts next us)) (tokens_before p (next ++ us) (step n t))

pub all_tokens : {line : ℕ} {bytes : List ℕ} {ts : List Token} {after : ℕ} → IsLexed line bytes ts after [] → IsTokens line bytes ts
all_tokens {line = line} {bytes = bytes} {ts = ts} p = subst (λ z. IsTokens line bytes z) (append-nil ts) (tokens_before p [] nothing)

-- ---- one step

-- tokens of which some are taken, and those that are left
pub record Left (ts : List Token) (after : ℕ) (rest : List ℕ) (all : List Token) : Type 0 where
  pub left : List Token
  pub parts : all ≡ ts ++ left
  pub is : IsTokens after rest left

abbrev pub Place : Type 0
Place = List Token × ℕ × List ℕ

-- there is one step
pub one_step : {line : ℕ} {bytes : List ℕ} {ts us : List Token} {after after' : ℕ} {rest rest' : List ℕ} → IsTokenStep line bytes ts after rest → IsTokenStep line bytes us after' rest' → ◌≡◌ {A = Place} (ts, after, rest) (us, after', rest')
one_step {ts = ts} {us = us} {after = after} {after' = after'} {rest = rest} {rest' = rest'} n m = some_is (ts, after, rest) (us, after', rest') (sym (next_found n) ∙ next_found m)

left_by : {line : ℕ} {bytes : List ℕ} {ts us : List Token} {after after' : ℕ} {rest rest' : List ℕ} → IsTokenStep line bytes ts after rest → IsTokenStep line bytes us after' rest' → (vs : List Token) → IsTokens after' rest' vs → Left ts after rest (us ++ vs)
left_by {us = us} {after' = after'} {rest' = rest'} n m vs t =
    let made : Left us after' rest' (us ++ vs) = record { left = vs; parts = refl; is = t } in
    subst (λ (z : Place). Left z.0 z.1 z.2 (us ++ vs)) (sym (one_step n m)) made

pub no_step : {line : ℕ} {ts : List Token} {after : ℕ} {rest : List ℕ} → IsTokenStep line [] ts after rest → ⊥
unfolding scanned_step
no_step {ts = ts} {after = after} {rest = rest} n = none-some (ts, after, rest) (next_found n)

step_left : {line : ℕ} {bytes : List ℕ} {all : List Token} → IsTokens line bytes all → {ts : List Token} {after : ℕ} {rest : List ℕ} → IsTokenStep line bytes ts after rest → Left ts after rest all
step_left nothing n = absurd (no_step n)
step_left (step {others = others} m t) n = left_by n m others t

pub lexed_left : {line : ℕ} {bytes : List ℕ} {ts : List Token} {after : ℕ} {rest : List ℕ} → IsLexed line bytes ts after rest → (all : List Token) → IsTokens line bytes all → Left ts after rest all
lexed_left here all t = record { left = all; parts = refl; is = t }
lexed_left (further {tokens = ts} {next = next} p n) all t =
    let l = lexed_left p all t in
    let s = step_left l.is n in
    record { left = s.left; parts = l.parts ∙ ap (λ z. ts ++ z) s.parts ∙ sym (append_assoc ts next s.left); is = s.is }

-- ---- a broken place

pub broken_tokens : {line : ℕ} {bytes : List ℕ} {all : List Token} → IsTokens line bytes all → IsBroken line bytes → ⊥
broken_tokens nothing b = let h = b.goes_on in absurd (omega arith)
broken_tokens (step n t) b = b.nothing _ _ _ n

pub broken_at : (line : ℕ) (bytes : List ℕ) → 0 < length bytes → scanned_step line bytes ≡ None → IsBroken line bytes
broken_at line bytes h e = record { goes_on = h; nothing = λ ts after rest n. none-some (ts, after, rest) (sym e ∙ next_found n) }

word_long : (letters : List ℕ) → tokens.IsWord letters → 0 < length letters
word_long [] is = absurd is
word_long (b ∷ bs) is = omega arith

digits_long : (digits : List ℕ) → tokens.IsDecimal digits → 0 < length digits
digits_long [] is = absurd is
digits_long (d ∷ ds) is = omega arith

-- a step takes bytes
pub step_shorter : {line : ℕ} {bytes : List ℕ} {ts : List Token} {after : ℕ} {rest : List ℕ} → IsTokenStep line bytes ts after rest → length rest < length bytes
step_shorter (tokens.blank h) = omega arith
step_shorter (tokens.comment {rest = rest} text e all end) = let l = ap length e in let m = length-append text rest in omega arith
step_shorter (tokens.word {rest = rest} letters e is end) = let l = ap length e in let m = length-append letters rest in let p = word_long letters is in omega arith
step_shorter (tokens.integer {rest = rest} digits e is end) = let l = ap length e in let m = length-append digits rest in let p = digits_long digits is in omega arith
step_shorter (tokens.mark h) = omega arith

near : (t : Bool) (line : ℕ) → cond t (line + 1) line < line + 2
near true line = omega arith
near false line = omega arith

-- only a line feed goes to the next line
pub step_line : {line : ℕ} {bytes : List ℕ} {ts : List Token} {after : ℕ} {rest : List ℕ} → IsTokenStep line bytes ts after rest → after < line + 2
step_line (tokens.blank {line = line} {b = b} h) = near (b == 10) line
step_line (tokens.comment text e all end) = omega arith
step_line (tokens.word letters e is end) = omega arith
step_line (tokens.integer digits e is end) = omega arith
step_line (tokens.mark h) = omega arith
