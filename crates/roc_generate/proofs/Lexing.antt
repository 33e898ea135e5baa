-- The tokens of a piece of text that is known are computed.
use Rattle.std.proofs.Common.{◌≡◌, ℕ, zero, suc, List, [], ◌++◌, Some, None, refl, sym, ap, subst, ◌∙◌, append_assoc}
use Rattle.std.proofs.lemmas.Option.{same_Some, none-some}
use Rattle.roc_lang.specs.Tokens.{Token, IsTokenStep, IsTokens, step}
use Rattle.roc_lang_parse.specs.Scanning.{Scanned, scanned_step}
use Rattle.roc_lang_parse.proofs.Steps.{next_is}
use Rattle.roc_lang_parse.proofs.Places.{Place}

abbrev pub in_front : List Token → Scanned → Scanned
in_front ts None = None
in_front ts (Some s) = Some (ts ++ s.0, s.1, s.2)

abbrev pub then_on : Scanned → (ℕ → List ℕ → Scanned) → Scanned
then_on None on = None
then_on (Some s) on = in_front s.0 (on s.1 s.2)

-- so many steps
abbrev pub scanned : (steps line : ℕ) (bytes : List ℕ) → Scanned
scanned zero line bytes = Some ([], line, bytes)
scanned (suc n) line bytes = then_on (scanned_step line bytes) (scanned n)

pub scanned_are : (n line : ℕ) (bytes : List ℕ) (ts : List Token) (after : ℕ) (rest : List ℕ) → scanned n line bytes ≡ Some (ts, after, rest) → (others : List Token) → IsTokens after rest others → IsTokens line bytes (ts ++ others)
scanned_are zero line bytes ts after rest e others i =
    let same : ◌≡◌ {A = Place} ([], line, bytes) (ts, after, rest) = same_Some _ _ e in
    subst (λ (s : Place). IsTokens s.1 s.2 others → IsTokens line bytes (s.0 ++ others)) same (λ j. j) i
scanned_are (suc n) line bytes ts after rest e others i = go (scanned_step line bytes) refl e (λ at between us later f. scanned_are n at between us after rest f others i)
  where
    front : (first us : List Token) (at : ℕ) (between : List ℕ) → IsTokenStep line bytes first at between → IsTokens at between (us ++ others) → IsTokens line bytes ((first ++ us) ++ others)
    front first us at between s j = subst (IsTokens line bytes) (sym (append_assoc first us others)) (step s j)

    behind : (s : Place) → scanned_step line bytes ≡ Some s → (o : Scanned) → scanned n s.1 s.2 ≡ o → in_front s.0 o ≡ Some (ts, after, rest)
        → ((at : ℕ) (between : List ℕ) (us : List Token) → ℕ → scanned n at between ≡ Some (us, after, rest) → IsTokens at between (us ++ others)) → IsTokens line bytes (ts ++ others)
    behind s h None g f k = absurd (none-some (ts, after, rest) f)
    behind s h (Some t) g f k =
        let same : ◌≡◌ {A = Place} (s.0 ++ t.0, t.1, t.2) (ts, after, rest) = same_Some _ _ f in
        let last : ◌≡◌ {A = ℕ × List ℕ} (t.1, t.2) (after, rest) = ap (λ (z : Place). (z.1, z.2)) same in
        let on : IsTokens s.1 s.2 (t.0 ++ others) = k s.1 s.2 t.0 0 (g ∙ ap (λ (z : ℕ × List ℕ). Some (t.0, z.0, z.1)) last) in
        subst (λ us. IsTokens line bytes (us ++ others)) (ap (λ (z : Place). z.0) same) (front s.0 t.0 s.1 s.2 (next_is line bytes s h) on)

    go : (o : Scanned) → scanned_step line bytes ≡ o → then_on o (scanned n) ≡ Some (ts, after, rest)
        → ((at : ℕ) (between : List ℕ) (us : List Token) → ℕ → scanned n at between ≡ Some (us, after, rest) → IsTokens at between (us ++ others)) → IsTokens line bytes (ts ++ others)
    go None h f k = absurd (none-some (ts, after, rest) f)
    go (Some s) h f k = behind s h (scanned n s.1 s.2) refl f k
