-- Texts that are read in one way: what stops them, and lists of them.
use Rattle.std.proofs.Common.{◌≡◌, ℕ, ◌+◌, ◌%◌, ◌<◌, pos, negsuc, suc, Bool, true, false, List, [], ◌∷◌, ◌++◌, append_assoc, length, FitsSigned, w64, refl, sym, ap, ◌∙◌, arith}
use Rattle.std.specs.List.{flat_map, AllByRecursion}
use Rattle.std.specs.Char.{is_ascii_digit}
use Rattle.std.specs.Fmt.{decimal, signed_decimal}
use Rattle.std.proofs.lemmas.Bool.{true≢false}
use Rattle.std.proofs.lemmas.Int.{ints}
use Rattle.std.proofs.lemmas.Fmt.{decimal_by_steps, decimal_injective, decimal_nonempty}
use Rattle.roc_lang.proofs.Digits.{digit}
use Rattle.roc_report.specs.ReportLine.{IsSmall}

-- what stands behind a text: nothing, or a byte that the text does not have
abbrev pub Stops : (ℕ → Bool) → List ℕ → Type 0
Stops p [] = Unit {0}
Stops p (b ∷ bs) = p b ≡ false

abbrev pub AreAll : (ℕ → Bool) → List ℕ → Type 0
AreAll p bytes = AllByRecursion (λ b. p b ≡ true) bytes

-- texts that stop alike are of one value, and so is what stands behind them
abbrev pub AreApart : {A : Type 0} → (A → Type 0) → (A → List ℕ) → (List ℕ → Type 0) → Type 0
AreApart {A} P text Stop = (a b : A) (r s : List ℕ) → P a → P b → Stop r → Stop s → text a ++ r ≡ text b ++ s → (a ≡ b) × (r ≡ s)

-- ---- bytes of one kind

none_left : (p : ℕ → Bool) (r bytes : List ℕ) (b : ℕ) → Stops p r → p b ≡ true → r ≡ b ∷ bytes → ⊥
none_left p [] bytes b stop is e = absurd (cc)
none_left p (c ∷ r) bytes b stop is e = let same : c ≡ b = cc in true≢false (sym is ∙ ap p (sym same) ∙ stop)

pub runs_apart : (p : ℕ → Bool) (xs ys r s : List ℕ) → AreAll p xs → AreAll p ys → Stops p r → Stops p s → xs ++ r ≡ ys ++ s → (xs ≡ ys) × (r ≡ s)
runs_apart p [] [] r s all also stop end e = (refl, e)
runs_apart p [] (y ∷ ys) r s all also stop end e = absurd (none_left p r (ys ++ s) y stop also.0 e)
runs_apart p (x ∷ xs) [] r s all also stop end e = absurd (none_left p s (xs ++ r) x end all.0 (sym e))
runs_apart p (x ∷ xs) (y ∷ ys) r s all also stop end e =
    let first : x ≡ y = cc in
    let others : xs ++ r ≡ ys ++ s = cc in
    let rest = runs_apart p xs ys r s all.1 also.1 stop end others in
    ((λ i. first i ∷ rest.0 i), rest.1)

-- ---- numbers

AreAll-more : (p : ℕ → Bool) (ds : List ℕ) (d : ℕ) → AreAll p ds → p d ≡ true → AreAll p (ds ++ d ∷ [])
AreAll-more p [] d all is = (is, tt)
AreAll-more p (c ∷ ds) d all is = (all.0, AreAll-more p ds d all.1 is)

pub digits_of : (n : ℕ) → IsSmall n → AreAll is_ascii_digit (decimal n)
digits_of n small = decimal_by_steps (λ m ds. AreAll is_ascii_digit ds) (λ m h. (digit m h, tt)) (λ m ds h all. AreAll-more is_ascii_digit ds (48 + m % 10) all (digit (m % 10) (omega arith))) n small

pub numbers_apart : AreApart IsSmall decimal (Stops is_ascii_digit)
numbers_apart m n r s small also stop end e =
    let p = runs_apart is_ascii_digit (decimal m) (decimal n) r s (digits_of m small) (digits_of n also) stop end e in
    (decimal_injective m n small also p.0, p.1)

-- a number begins with a digit
pub begins_apart : (n b : ℕ) (r bytes : List ℕ) → IsSmall n → is_ascii_digit b ≡ false → decimal n ++ r ≡ b ∷ bytes → ⊥
begins_apart n b r bytes small other e = go (decimal n) (decimal_nonempty n small) (digits_of n small) e
  where
    go : (ds : List ℕ) → 0 < length ds → AreAll is_ascii_digit ds → ds ++ r ≡ b ∷ bytes → ⊥
    go [] some all e = absurd (omega arith)
    go (d ∷ ds) some all e = let same : d ≡ b = cc in true≢false (sym all.0 ∙ ap is_ascii_digit same ∙ other)

small_magnitude : (n : ℕ) → FitsSigned w64 (pos n) → IsSmall n
small_magnitude n fits = omega (arith, ints)

small_negative : (n : ℕ) → FitsSigned w64 (negsuc n) → IsSmall (suc n)
small_negative n fits = omega (arith, ints)

pub integers_apart : AreApart (FitsSigned w64) signed_decimal (Stops is_ascii_digit)
integers_apart (pos m) (pos n) r s fits also stop end e =
    let p = numbers_apart m n r s (small_magnitude m fits) (small_magnitude n also) stop end e in
    (ap pos p.0, p.1)
integers_apart (pos m) (negsuc n) r s fits also stop end e = absurd (begins_apart m 45 r (decimal (suc n) ++ s) (small_magnitude m fits) refl e)
integers_apart (negsuc m) (pos n) r s fits also stop end e = absurd (begins_apart n 45 s (decimal (suc m) ++ r) (small_magnitude n also) refl (sym e))
integers_apart (negsuc m) (negsuc n) r s fits also stop end e =
    let behind : decimal (suc m) ++ r ≡ decimal (suc n) ++ s = cc in
    let p = numbers_apart (suc m) (suc n) r s (small_negative m fits) (small_negative n also) stop end behind in
    let same : m ≡ n = omega (arith, p.0) in
    (ap negsuc same, p.1)

-- ---- lists, a byte before each member

-- a byte, and a text behind it
abbrev pub led : {A : Type 0} → ℕ → (A → List ℕ) → A → List ℕ
led byte text a = byte ∷ text a

module _ {A : Type 0} (P : A → Type 0) (text : A → List ℕ) (byte : ℕ) (Stop End : List ℕ → Type 0) (apart : AreApart P text Stop)
    (next : (bytes : List ℕ) → Stop (byte ∷ bytes)) (ends : (r : List ℕ) → End r → Stop r)
    (ended : (a : A) (r bytes : List ℕ) → P a → End r → r ≡ byte ∷ (text a ++ bytes) → ⊥) where
  stop_behind : (xs : List A) (r : List ℕ) → End r → Stop (flat_map (led byte text) xs ++ r)
  stop_behind [] r end = ends r end
  stop_behind (x ∷ xs) r end = next _

  pub lists_apart : (xs ys : List A) (r s : List ℕ) → AllByRecursion P xs → AllByRecursion P ys → End r → End s → flat_map (led byte text) xs ++ r ≡ flat_map (led byte text) ys ++ s → (xs ≡ ys) × (r ≡ s)
  lists_apart [] [] r s all also end stop e = (refl, e)
  lists_apart [] (y ∷ ys) r s all also end stop e = absurd (ended y r (flat_map (led byte text) ys ++ s) also.0 end (e ∙ append_assoc (led byte text y) (flat_map (led byte text) ys) s))
  lists_apart (x ∷ xs) [] r s all also end stop e = absurd (ended x s (flat_map (led byte text) xs ++ r) all.0 stop (sym e ∙ append_assoc (led byte text x) (flat_map (led byte text) xs) r))
  lists_apart (x ∷ xs) (y ∷ ys) r s all also end stop e =
      let whole : byte ∷ (text x ++ (flat_map (led byte text) xs ++ r)) ≡ byte ∷ (text y ++ (flat_map (led byte text) ys ++ s)) =
      sym (append_assoc (led byte text x) (flat_map (led byte text) xs) r) ∙ e ∙ append_assoc (led byte text y) (flat_map (led byte text) ys) s in
      let behind : text x ++ (flat_map (led byte text) xs ++ r) ≡ text y ++ (flat_map (led byte text) ys ++ s) = cc in
      let first = apart x y (flat_map (led byte text) xs ++ r) (flat_map (led byte text) ys ++ s) all.0 also.0 (stop_behind xs r end) (stop_behind ys s stop) behind in
      let rest = lists_apart xs ys r s all.1 also.1 end stop first.1 in
      ((λ i. first.0 i ∷ rest.0 i), rest.1)
