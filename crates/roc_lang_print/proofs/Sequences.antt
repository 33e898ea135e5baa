-- Texts one behind the other spell what each of them spells: lines, and names with commas between.
use Rattle.std.proofs.Common.{◌≡◌, ℕ, ◌<◌, List, [], ◌∷◌, ◌++◌, map, length, flat_map, refl, sym, ap, subst, ◌∙◌, append_assoc, arith}
use Rattle.std.specs.List.{AllByRecursion, fold}
use Rattle.std.proofs.lemmas.List.{length-map}
use lib.Chars.{codes}
use Rattle.roc_lang.specs.Syntax.{Name}
use Rattle.roc_lang.specs.Tokens.{Mark, Token, IsTokenEnd, IsTokens}
use Rattle.roc_lang_print.proofs.Spelt.{blank, mark}
use Rattle.roc_lang.specs.Grammar.{IsName, Each, none, first, Separated, last, more, comma}
use Rattle.roc_lang_print.specs.Canonical.{separated_text, names_text}
use Rattle.roc_lang_print.specs.UpToLines.{bare_name}
use Rattle.roc_lang_print.proofs.Fit.{IsFitName}
use Rattle.roc_lang_print.proofs.Spelling.{Made, at_line, token_is, name_made}

-- lists that are equal up to lines are as long
pub same_length : {A : Type 0} (bare : A → A) (xs ys : List A) → map bare xs ≡ map bare ys → length xs ≡ length ys
same_length bare xs ys e = sym (length-map xs bare) ∙ ap length e ∙ length-map ys bare

-- each begins on the line behind the one before
pub each_made : {A : Type 0} (Is : List Token → List Token → A → Type 0) (bare : A → A) (text : A → List ℕ) (line_behind : ℕ → A → ℕ) (Fit : A → Type 0)
    → ((x : A) → Fit x → (line : ℕ) (rest : List ℕ) (others : List Token) → IsTokens (line_behind line x) rest others → Made Is bare line (text x ++ rest) others x)
    → (xs : List A) → AllByRecursion Fit xs → (line : ℕ) (rest : List ℕ) (others : List Token) → IsTokens (fold line_behind line xs) rest others → Made (Each Is) (map bare) line (flat_map text xs ++ rest) others xs
each_made Is bare text line_behind Fit step [] all line rest others i = record { tokens = others; tree = []; spelt = i; is = none; same = refl }
each_made Is bare text line_behind Fit step (x ∷ xs) all line rest others i =
    let m = each_made Is bare text line_behind Fit step xs all.1 (line_behind line x) rest others i in
    let f = step x all.0 line (flat_map text xs ++ rest) m.tokens m.spelt in
    record {
      tokens = f.tokens;
      tree = f.tree ∷ m.tree;
      spelt = subst (λ z. IsTokens line z f.tokens) (sym (append_assoc (text x) (flat_map text xs) rest)) f.spelt;
      is = first f.is m.is;
      same = λ k. f.same k ∷ m.same k;
    }

-- ---- several with commas between

-- what spells a comma alone, and ends a word before it
pub record IsComma (between : List ℕ) : Type 0 where
  pub ends : (rest : List ℕ) → IsTokenEnd (between ++ rest)
  pub spelt : (line : ℕ) (rest : List ℕ) (others : List Token) → IsTokens line rest others → IsTokens line (between ++ rest) (at_line (Mark comma) line ∷ others)

pub close_comma : IsComma (codes ",")
close_comma = record { ends = λ rest. refl; spelt = λ line rest others i. mark refl i }

pub wide_comma : IsComma (codes ", ")
wide_comma = record { ends = λ rest. refl; spelt = λ line rest others i. mark refl (blank refl i) }

regrouped : (n b m f r : List ℕ) → n ++ (b ++ m ++ f) ++ r ≡ n ++ (b ++ (m ++ f ++ r))
regrouped n b m f r = simp append_assoc

-- before anything that ends a token, the text of each spells it
abbrev pub Shows : {A : Type 0} (Is : List Token → List Token → A → Type 0) (bare : A → A) (text : A → List ℕ) (Fit : A → Type 0) → Type 0
Shows Is bare text Fit = (x : _) → Fit x → (line : ℕ) (rest : List ℕ) (others : List Token) → IsTokenEnd rest → IsTokens line rest others → Made Is bare line (text x ++ rest) others x

one_made : {A : Type 0} (Is : List Token → List Token → A → Type 0) (bare : A → A) (text : A → List ℕ) (Fit : A → Type 0) → Shows Is bare text Fit
    → (between : List ℕ) (x : A) → Fit x → (line : ℕ) (rest : List ℕ) (others : List Token) → IsTokenEnd rest → IsTokens line rest others → Made (Separated Is) (map bare) line (separated_text between text (x ∷ []) ++ rest) others (x ∷ [])
one_made Is bare text Fit step between x h line rest others end i =
    let m = step x h line rest others end i in
    record { tokens = m.tokens; tree = m.tree ∷ []; spelt = subst (λ z. IsTokens line z m.tokens) (sym (append_assoc (text x) [] rest)) m.spelt; is = last m.is; same = λ k. m.same k ∷ [] }

some_made : {A : Type 0} (Is : List Token → List Token → A → Type 0) (bare : A → A) (text : A → List ℕ) (Fit : A → Type 0) → Shows Is bare text Fit
    → (between : List ℕ) → IsComma between → (x : A) (xs : List A) → Fit x → AllByRecursion Fit xs → (line : ℕ) (rest : List ℕ) (others : List Token) → IsTokenEnd rest → IsTokens line rest others
    → Made (Separated Is) (map bare) line (separated_text between text (x ∷ xs) ++ rest) others (x ∷ xs)
some_made Is bare text Fit step between c x [] h all line rest others end i = one_made Is bare text Fit step between x h line rest others end i
some_made Is bare text Fit step between c x (y ∷ ys) h all line rest others end i =
    let m = some_made Is bare text Fit step between c y ys all.0 all.1 line rest others end i in
    let behind : List ℕ = separated_text between text (y ∷ ys) ++ rest in
    let n = step x h line (between ++ behind) (at_line (Mark comma) line ∷ m.tokens) (c.ends behind) (c.spelt line behind m.tokens m.spelt) in
    record {
      tokens = n.tokens;
      tree = n.tree ∷ m.tree;
      spelt = subst (λ z. IsTokens line z n.tokens) (sym (regrouped (text x) between (text y) (flat_map (λ z. between ++ text z) ys) rest)) n.spelt;
      is = more n.is (token_is (Mark comma) line m.tokens) m.is;
      same = λ k. n.same k ∷ m.same k;
    }

pub separated_made : {A : Type 0} (Is : List Token → List Token → A → Type 0) (bare : A → A) (text : A → List ℕ) (Fit : A → Type 0) → Shows Is bare text Fit
    → (between : List ℕ) → IsComma between → (xs : List A) → 0 < length xs → AllByRecursion Fit xs → (line : ℕ) (rest : List ℕ) (others : List Token) → IsTokenEnd rest → IsTokens line rest others
    → Made (Separated Is) (map bare) line (separated_text between text xs ++ rest) others xs
separated_made Is bare text Fit step between c [] some all line rest others end i = absurd (omega arith)
separated_made Is bare text Fit step between c (x ∷ xs) some all line rest others end i = some_made Is bare text Fit step between c x xs all.0 all.1 line rest others end i

pub names_made : (between : List ℕ) → IsComma between → (names : List Name) → 0 < length names → AllByRecursion IsFitName names → (line : ℕ) (rest : List ℕ) (others : List Token) → IsTokenEnd rest → IsTokens line rest others
    → Made (Separated IsName) (map bare_name) line (names_text between names ++ rest) others names
names_made between c names some all = separated_made IsName bare_name (λ n. n.text) IsFitName name_made between c names some all
