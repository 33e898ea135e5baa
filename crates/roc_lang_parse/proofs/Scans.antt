-- Each text is read up to its end or to a broken place, and in one way.
use Rattle.std.proofs.Common.{◌≡◌, ℕ, zero, suc, ◌<◌, ◌≤◌, List, [], ◌∷◌, ◌++◌, length, Option, Some, None, refl, sym, ap, subst, ◌∙◌, append_assoc, ◌⊎◌, inl, inr, arith}
use Rattle.std.proofs.lemmas.List.{append-nil}
use Rattle.roc_lang.specs.Tokens.{Token, IsTokenStep}
use Rattle.roc_lang_parse.specs.Lexed.{IsLexed, here, further, IsBroken}
use Rattle.roc_lang_parse.specs.Scanning.{scanned_step}
use Rattle.roc_lang_parse.specs.Inner.Views.{IsScanned}
use Rattle.roc_lang_parse.proofs.Steps.{next_is}
use Rattle.roc_lang_parse.proofs.Places.{Place, one_step, no_step, broken_at, step_shorter}

-- ---- a text is read

pub record Scan (text : List ℕ) : Type 0 where
  pub tokens : List Token
  pub broken : Option ℕ
  pub is : IsScanned text tokens broken

scan_from : (n : ℕ) (text : List ℕ) (ts : List Token) (line : ℕ) (rest : List ℕ) → IsLexed 1 text ts line rest → length rest ≤ n → Scan text
scan_from zero text ts line [] p h = record { tokens = ts; broken = None; is = (line, p) }
scan_from zero text ts line (b ∷ rest) p h = absurd (omega arith)
scan_from (suc n) text ts line rest p h = go (scanned_step line rest) refl (λ us after others q g. scan_from n text us after others q g)
  where
    empty : (bs : List ℕ) → IsLexed 1 text ts line bs → scanned_step line bs ≡ None → Scan text
    empty [] q e = record { tokens = ts; broken = None; is = (line, q) }
    empty (b ∷ bs) q e = let more : 0 < length (b ∷ bs) = omega arith in record { tokens = ts; broken = Some line; is = (b ∷ bs, q, broken_at line (b ∷ bs) more e) }

    go : (o : Option (List Token × ℕ × List ℕ)) → scanned_step line rest ≡ o → ((us : List Token) (after : ℕ) (others : List ℕ) → IsLexed 1 text us after others → length others ≤ n → Scan text) → Scan text
    go None e k = empty rest p e
    go (Some y) e k = let m = next_is line rest y e in let s = step_shorter m in k (ts ++ y.0) y.1 y.2 (further p m) (omega arith)

pub scan : (text : List ℕ) → Scan text
scan text = scan_from (length text) text [] 1 text here (omega arith)

-- ---- in one way

-- nothing, or a first step and the others
record Begun (line : ℕ) (bytes : List ℕ) (ts : List Token) (after : ℕ) (rest : List ℕ) : Type 0 where
  first : List Token
  at : ℕ
  between : List ℕ
  others : List Token
  is : IsTokenStep line bytes first at between
  on : IsLexed at between others after rest
  parts : ts ≡ first ++ others

abbrev Empty : (line : ℕ) (bytes : List ℕ) (ts : List Token) (after : ℕ) (rest : List ℕ) → Type 0
Empty line bytes ts after rest = ◌≡◌ {A = Place} (ts, after, rest) ([], line, bytes)

begun : {line : ℕ} {bytes : List ℕ} {ts : List Token} {after : ℕ} {rest : List ℕ} → IsLexed line bytes ts after rest → Empty line bytes ts after rest ⊎ Begun line bytes ts after rest
begun here = inl refl
begun (further {line = line} {at = at} {after = after} {bytes = bytes} {between = between} {rest = rest} {tokens = ts} {next = next} p n) = go (begun p)
  where
    go : Empty line bytes ts at between ⊎ Begun line bytes ts at between → Empty line bytes (ts ++ next) after rest ⊎ Begun line bytes (ts ++ next) after rest
    go (inl e) =
        let m : IsTokenStep line bytes next after rest = subst (λ (z : Place). IsTokenStep z.1 z.2 next after rest) e n in
        inr (record { first = next; at = after; between = rest; others = []; is = m; on = here; parts = ap (λ (z : Place). z.0 ++ next) e ∙ sym (append-nil next) })
    go (inr b) = inr (record { first = b.first; at = b.at; between = b.between; others = b.others ++ next; is = b.is; on = further b.on n; parts = ap (λ z. z ++ next) b.parts ∙ append_assoc b.first b.others next })

-- the second goes on from the first
pub record On (ts : List Token) (line : ℕ) (rest : List ℕ) (us : List Token) (line' : ℕ) (rest' : List ℕ) : Type 0 where
  pub more : List Token
  pub parts : us ≡ ts ++ more
  pub is : IsLexed line rest more line' rest'

pub either_on : {line : ℕ} {bytes : List ℕ} {ts us : List Token} {after after' : ℕ} {rest rest' : List ℕ} → IsLexed line bytes ts after rest → IsLexed line bytes us after' rest' → On ts after rest us after' rest' ⊎ On us after' rest' ts after rest
either_on {us = us} here q = inl (record { more = us; parts = refl; is = q })
either_on {us = us} {after' = after'} {rest' = rest'} (further {at = at} {after = after} {between = between} {rest = rest} {tokens = ts} {next = next} p n) q = go (either_on p q)
  where
    step : (m : List Token) → us ≡ ts ++ m → Empty at between m after' rest' ⊎ Begun at between m after' rest' → On (ts ++ next) after rest us after' rest' ⊎ On us after' rest' (ts ++ next) after rest
    step m e (inl f) =
        let n' : IsTokenStep after' rest' next after rest = subst (λ (z : Place). IsTokenStep z.1 z.2 next after rest) (sym f) n in
        let same : us ≡ ts = e ∙ ap (λ (z : Place). ts ++ z.0) f ∙ append-nil ts in
        inr (record { more = next; parts = ap (λ z. z ++ next) (sym same); is = further here n' })
    step m e (inr b) =
        let same = one_step b.is n in
        let on : IsLexed after rest b.others after' rest' = subst (λ (z : Place). IsLexed z.1 z.2 b.others after' rest') same b.on in
        let first : b.first ≡ next = ap (λ (z : Place). z.0) same in
        inl (record { more = b.others; parts = e ∙ ap (λ z. ts ++ z) (b.parts ∙ ap (λ z. z ++ b.others) first) ∙ sym (append_assoc ts next b.others); is = on })

    go : On ts at between us after' rest' ⊎ On us after' rest' ts at between → On (ts ++ next) after rest us after' rest' ⊎ On us after' rest' (ts ++ next) after rest
    go (inl o) = step o.more o.parts (begun o.is)
    go (inr o) = inr (record { more = o.more ++ next; parts = ap (λ z. z ++ next) o.parts ∙ append_assoc us o.more next; is = further o.is n })

-- ---- where reading ends

-- from an end or a broken place nothing goes on
abbrev Final : ℕ → List ℕ → Type 0
Final line rest = (ts : List Token) (after : ℕ) (others : List ℕ) → IsTokenStep line rest ts after others → ⊥

stays : {line : ℕ} {rest : List ℕ} {ts : List Token} {after : ℕ} {others : List ℕ} → Final line rest → IsLexed line rest ts after others → Empty line rest ts after others
stays {line = line} {rest = rest} {ts = ts} {after = after} {others = others} final p = go (begun p)
  where
    go : Empty line rest ts after others ⊎ Begun line rest ts after others → Empty line rest ts after others
    go (inl e) = e
    go (inr b) = absurd (final b.first b.at b.between b.is)

-- what was read before a final place is in front of all that was
before_final : {line : ℕ} {bytes : List ℕ} {ts us : List Token} {after after' : ℕ} {rest rest' : List ℕ} → Final after' rest' → IsLexed line bytes ts after rest → IsLexed line bytes us after' rest' → On ts after rest us after' rest'
before_final {ts = ts} {us = us} {after = after} {after' = after'} {rest = rest} {rest' = rest'} final p q = go (either_on p q)
  where
    go : On ts after rest us after' rest' ⊎ On us after' rest' ts after rest → On ts after rest us after' rest'
    go (inl o) = o
    go (inr o) =
        let e = stays final o.is in
        let same : ts ≡ us = o.parts ∙ ap (λ (z : Place). us ++ z.0) e ∙ append-nil us in
        record { more = []; parts = sym same ∙ sym (append-nil ts); is = subst (λ (z : Place). IsLexed z.1 z.2 [] after' rest') (sym e) here }

pub scanned_before : (bytes : List ℕ) (ts : List Token) (o : Option ℕ) → IsScanned bytes ts o → (before : List Token) (line : ℕ) (rest : List ℕ) → IsLexed 1 bytes before line rest → (more : List Token) × (ts ≡ before ++ more)
scanned_before bytes ts None s before line rest p = let o = before_final (λ us after others n. no_step n) p s.1 in (o.more, o.parts)
scanned_before bytes ts (Some l) s before line rest p = let o = before_final (λ us after others n. s.2.nothing us after others n) p s.1 in (o.more, o.parts)

-- a broken place is where reading ends
pub scanned_broken : (bytes : List ℕ) (ts : List Token) (o : Option ℕ) → IsScanned bytes ts o → (before : List Token) (line : ℕ) (rest : List ℕ) → IsLexed 1 bytes before line rest → IsBroken line rest → (ts ≡ before) × (o ≡ Some line)
scanned_broken bytes ts None s before line rest p b =
    let o = before_final (λ us after others n. no_step n) p s.1 in
    let e = stays (λ us after others n. b.nothing us after others n) o.is in
    let l = ap (λ (z : Place). length z.2) e in
    let g = b.goes_on in
    absurd (omega arith)
scanned_broken bytes ts (Some l) s before line rest p b =
    let o = before_final (λ us after others n. s.2.nothing us after others n) p s.1 in
    let e = stays (λ us after others n. b.nothing us after others n) o.is in
    (o.parts ∙ ap (λ (z : Place). before ++ z.0) e ∙ append-nil before, ap (λ (z : Place). Some z.1) e)
