-- What holds of an expression that was parsed: its names are words, its numbers fit, and its canonical text is no deeper.
use Rattle.std.proofs.Common.{ℕ, ◌+◌, ◌^◌, ◌<◌, ◌≤◌, max, Bool, true, false, ◌||◌, List, ◌++◌, IsFalse, subst, arith}
use Rattle.std.specs.Prelude.{pos, negsuc}
use Rattle.std.specs.List.{AllByRecursion}
use Rattle.roc_lang.specs.Syntax.{Name, Expression, Number, Variable, Sum, Difference, Product, Minimum, Maximum, Less, Pick}
use Rattle.roc_lang.specs.Tokens as tokens
use Rattle.roc_lang.specs.Tokens.{Kind, Word, Integer, Mark, Token, IsWord, IsTokenStep, IsTokens}
use Rattle.roc_lang.specs.Grammar.{IsToken, IsName, IsExpression, is_reserved}
use Rattle.roc_lang_parse.specs.Reading.{deeper}
use Rattle.roc_lang_parse.proofs.Depths.{Summed, Multiplied, Single, Paired, term, sum, difference, atom, product, number, variable, parentheses, minimum, maximum, less, pick, pair, deep_sum}
use Rattle.roc_lang_print.specs.Canonical.{is_sum, is_product}

-- ---- the words of tokens

abbrev pub IsSpelt : Kind → Type 0
IsSpelt (Word letters) = IsWord letters
IsSpelt (Integer n) = Unit {0}
IsSpelt (Mark b) = Unit {0}

-- each word among tokens is one
abbrev pub Words : List Token → Type 0
Words ts = AllByRecursion (λ t. IsSpelt t.kind) ts

step_words : {line : ℕ} {bytes : List ℕ} {ts : List Token} {after : ℕ} {rest : List ℕ} → IsTokenStep line bytes ts after rest → (others : List Token) → Words others → Words (ts ++ others)
step_words (tokens.blank h) others w = w
step_words (tokens.comment text e all end) others w = w
step_words (tokens.word letters e is end) others w = (is, w)
step_words (tokens.integer digits e is end) others w = (tt, w)
step_words (tokens.mark h) others w = (tt, w)

pub spelt_words : {line : ℕ} {bytes : List ℕ} {ts : List Token} → IsTokens line bytes ts → Words ts
spelt_words tokens.nothing = tt
spelt_words (tokens.step {others = others} n i) = step_words n others (spelt_words i)

-- behind a token
pub behind : {kind : Kind} {a b : List Token} → IsToken kind a b → Words a → Words b
behind t w = (subst Words t.is w).1

-- ---- names and numbers

pub record IsFitName (name : Name) : Type 0 where
  pub word : IsWord name.text
  pub free : IsFalse (is_reserved name.text)

pub name_fit : {a b : List Token} {name : Name} → IsName a b name → Words a → IsFitName name × Words b
name_fit i w = let p = subst Words i.is w in (record { word = p.0; free = i.free }, p.1)

-- its numbers are below 2 ^ 63, and its names are words that are free
abbrev pub IsFit : Expression → Type 0
IsFit (Number (pos n)) = n < 2 ^ 63
IsFit (Number (negsuc n)) = ⊥
IsFit (Variable name) = IsFitName name
IsFit (Sum e f) = IsFit e × IsFit f
IsFit (Difference e f) = IsFit e × IsFit f
IsFit (Product e f) = IsFit e × IsFit f
IsFit (Minimum e f) = IsFit e × IsFit f
IsFit (Maximum e f) = IsFit e × IsFit f
IsFit (Less e f) = IsFit e × IsFit f
IsFit (Pick c e f) = IsFit c × IsFit e × IsFit f

-- ---- depth

-- parentheses are one deeper
abbrev pub within : Bool → ℕ → ℕ
within true d = d + 1
within false d = d

-- the depth of the canonical text
abbrev pub depth : Expression → ℕ
depth (Number value) = 1
depth (Variable name) = 1
depth (Sum e f) = deeper (depth e) (within (is_sum f) (depth f))
depth (Difference e f) = deeper (depth e) (within (is_sum f) (depth f))
depth (Product e f) = deeper (within (is_sum e) (depth e)) (within (is_sum f || is_product f) (depth f))
depth (Minimum e f) = max (depth e) (depth f) + 1
depth (Maximum e f) = max (depth e) (depth f) + 1
depth (Less e f) = max (depth e) (depth f) + 1
depth (Pick c e f) = max (depth c) (max (depth e) (depth f)) + 1

within_one : (b : Bool) (d : ℕ) → within b d ≤ d + 1
within_one true d = omega arith
within_one false d = omega arith

within_least : (b : Bool) (d : ℕ) → d ≤ within b d
within_least true d = omega arith
within_least false d = omega arith

within_either : (b c : Bool) (d : ℕ) → within b d ≤ within (b || c) d
within_either true c d = omega arith
within_either false c d = within_least c d

-- an expression that was read: what it holds fits, what is shown of it is no deeper than what was read, and the words behind it are words
pub record Fits (e : Expression) (shown : ℕ) (d : ℕ) (rest : List Token) : Type 0 where
  pub fit : IsFit e
  pub shallow : shown ≤ d
  pub others : Words rest

record FitPair (e f : Expression) (d : ℕ) (rest : List Token) : Type 0 where
  first : IsFit e
  second : IsFit f
  shallow : max (depth e) (depth f) ≤ d
  others : Words rest

mutual
  summed_fit : {a b : List Token} {e : Expression} {d : ℕ} → Summed a b e d → Words a → Fits e (depth e) d b
  summed_fit (term {e = e} i) w =
      let x = multiplied_fit i w in
      let least = within_least (is_sum e) (depth e) in
      record { fit = x.fit; shallow = omega (arith, x.shallow, least); others = x.others }
  summed_fit (sum i s j) w =
      let x = summed_fit i w in
      let y = multiplied_fit j (behind s x.others) in
      record { fit = (x.fit, y.fit); shallow = omega (arith, x.shallow, y.shallow); others = y.others }
  summed_fit (difference i s j) w =
      let x = summed_fit i w in
      let y = multiplied_fit j (behind s x.others) in
      record { fit = (x.fit, y.fit); shallow = omega (arith, x.shallow, y.shallow); others = y.others }

  multiplied_fit : {a b : List Token} {e : Expression} {d : ℕ} → Multiplied a b e d → Words a → Fits e (within (is_sum e) (depth e)) d b
  multiplied_fit (atom {e = e} i) w =
      let x = single_fit i w in
      let either = within_either (is_sum e) (is_product e) (depth e) in
      record { fit = x.fit; shallow = omega (arith, x.shallow, either); others = x.others }
  multiplied_fit (product i s j) w =
      let x = multiplied_fit i w in
      let y = single_fit j (behind s x.others) in
      record { fit = (x.fit, y.fit); shallow = omega (arith, x.shallow, y.shallow); others = y.others }

  single_fit : {a b : List Token} {e : Expression} {d : ℕ} → Single a b e d → Words a → Fits e (within (is_sum e || is_product e) (depth e)) d b
  single_fit (number i) w = record { fit = i.fits; shallow = omega arith; others = behind i.is w }
  single_fit (variable i) w = let x = name_fit i w in record { fit = x.0; shallow = omega arith; others = x.1 }
  single_fit (parentheses {e = e} o i c) w =
      let x = summed_fit i (behind o w) in
      let one = within_one (is_sum e || is_product e) (depth e) in
      record { fit = x.fit; shallow = omega (arith, x.shallow, one); others = behind c x.others }
  single_fit (minimum t i) w = let x = paired_fit i (behind t w) in record { fit = (x.first, x.second); shallow = omega (arith, x.shallow); others = x.others }
  single_fit (maximum t i) w = let x = paired_fit i (behind t w) in record { fit = (x.first, x.second); shallow = omega (arith, x.shallow); others = x.others }
  single_fit (less t i) w = let x = paired_fit i (behind t w) in record { fit = (x.first, x.second); shallow = omega (arith, x.shallow); others = x.others }
  single_fit (pick t o i c j k l p) w =
      let x = summed_fit i (behind o (behind t w)) in
      let y = summed_fit j (behind c x.others) in
      let z = summed_fit l (behind k y.others) in
      record { fit = (x.fit, y.fit, z.fit); shallow = omega (arith, x.shallow, y.shallow, z.shallow); others = behind p z.others }

  paired_fit : {a b : List Token} {e f : Expression} {d : ℕ} → Paired a b e f d → Words a → FitPair e f d b
  paired_fit (pair o i c j p) w =
      let x = summed_fit i (behind o w) in
      let y = summed_fit j (behind c x.others) in
      record { first = x.fit; second = y.fit; shallow = omega (arith, x.shallow, y.shallow); others = behind p y.others }

pub expression_fit : {k : ℕ} {a b : List Token} {e : Expression} → IsExpression k a b e → Words a → Fits e (depth e) k b
expression_fit i w =
    let s = deep_sum i in
    let x = summed_fit s.is w in
    record { fit = x.fit; shallow = omega (arith, x.shallow, s.fits); others = x.others }
