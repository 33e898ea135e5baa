-- How the loops over bytes go on, and how they end.
use Rattle.std.proofs.Common.{◌≡◌, ℕ, zero, suc, ◌+◌, ◌<◌, ◌≤◌, Bool, true, false, cond, ◌==◌, List, [], ◌∷◌, ◌++◌, length, take, drop, get_or, Option, Some, None, refl, sym, ap, subst, ◌∙◌, arith, add-one}
use Rattle.std.specs.List.{AllByRecursion, fold}
use Rattle.std.proofs.Math.ListN.{drop_of_length-le}
use Rattle.std.proofs.Math.Seq.{drop-cons, take-suc}
use Rattle.std.proofs.lemmas.Bool.{eqb-true, eq-eqb}
use Rattle.roc_lang.specs.Tokens.{Token, IsTokenStep, is_word_byte, line_after}
use Rattle.roc_lang_parse.specs.Lexed.{IsLexed, here, further, IsBroken}
use Rattle.roc_lang_parse.specs.Scanning.{word_run, line_run, value_and, value_on, value_from, scanned_step}
use Rattle.roc_lang_parse.proofs.Steps.{next_is}
use Rattle.roc_lang_parse.proofs.Places.{broken_at, step_shorter, step_line}

-- the byte at a place, and what follows
at_place : (bytes : List ℕ) (i : ℕ) → i < length bytes → drop i bytes ≡ get_or bytes i 0 ∷ drop (i + 1) bytes
at_place bytes i h = rw (add-one, drop-cons bytes i 0) refl

pub run_goes : (bs : List ℕ) (i w : ℕ) → i < length bs → is_word_byte (get_or bs i 0) ≡ true → i + word_run (drop i bs) ≡ w → (i + 1) + word_run (drop (i + 1) bs) ≡ w
unfolding word_run
run_goes bs i w h t e =
    let one : word_run (drop i bs) ≡ suc (word_run (drop (i + 1) bs)) = ap word_run (at_place bs i h) ∙ rw t refl in
    omega arith

pub run_stops : (bs : List ℕ) (i w : ℕ) → i < length bs → is_word_byte (get_or bs i 0) ≡ false → i + word_run (drop i bs) ≡ w → i ≡ w
unfolding word_run
run_stops bs i w h t e =
    let none : word_run (drop i bs) ≡ 0 = ap word_run (at_place bs i h) ∙ rw t refl in
    omega arith

pub run_ends : (bs : List ℕ) (i w : ℕ) → length bs ≤ i → i ≤ length bs → i + word_run (drop i bs) ≡ w → length bs ≡ w
unfolding word_run
run_ends bs i w h g e =
    let none : word_run (drop i bs) ≡ 0 = ap word_run (drop_of_length-le bs h) in
    omega arith

no_line_feed : (b : ℕ) → (b ≡ 10 → ⊥) → (b == 10) ≡ false
no_line_feed b n = go (b == 10) refl
  where
    go : (t : Bool) → (b == 10) ≡ t → t ≡ false
    go true e = absurd (n (eqb-true b 10 e))
    go false e = refl

pub line_goes : (bs : List ℕ) (i w : ℕ) → i < length bs → (get_or bs i 0 ≡ 10 → ⊥) → i + line_run (drop i bs) ≡ w → (i + 1) + line_run (drop (i + 1) bs) ≡ w
unfolding line_run
line_goes bs i w h t e =
    let one : line_run (drop i bs) ≡ suc (line_run (drop (i + 1) bs)) = ap line_run (at_place bs i h) ∙ rw (no_line_feed (get_or bs i 0) t) refl in
    omega arith

pub line_stops : (bs : List ℕ) (i w : ℕ) → i < length bs → get_or bs i 0 ≡ 10 → i + line_run (drop i bs) ≡ w → i ≡ w
unfolding line_run
line_stops bs i w h t e =
    let none : line_run (drop i bs) ≡ 0 = ap line_run (at_place bs i h) ∙ rw (eq-eqb (get_or bs i 0) 10 t) refl in
    omega arith

pub line_ends : (bs : List ℕ) (i w : ℕ) → length bs ≤ i → i ≤ length bs → i + line_run (drop i bs) ≡ w → length bs ≡ w
unfolding line_run
line_ends bs i w h g e =
    let none : line_run (drop i bs) ≡ 0 = ap line_run (drop_of_length-le bs h) in
    omega arith

pub value_goes : (v n : ℕ) (bs : List ℕ) (i : ℕ) (w : Option ℕ) → i < length bs → value_and v (get_or bs i 0) ≡ Some n → value_from v (drop i bs) ≡ w → value_from n (drop (i + 1) bs) ≡ w
unfolding value_from
value_goes v n bs i w h one e = sym (ap (λ o. value_on o (λ m. value_from m (drop (i + 1) bs))) one) ∙ sym (ap (value_from v) (at_place bs i h)) ∙ e

pub value_stops : (v : ℕ) (bs : List ℕ) (i : ℕ) (w : Option ℕ) → i < length bs → value_and v (get_or bs i 0) ≡ None → value_from v (drop i bs) ≡ w → None ≡ w
unfolding value_from
value_stops v bs i w h none e = sym (ap (λ o. value_on o (λ m. value_from m (drop (i + 1) bs))) none) ∙ sym (ap (value_from v) (at_place bs i h)) ∙ e

pub value_ends : (v : ℕ) (bs : List ℕ) (i : ℕ) (w : Option ℕ) → length bs ≤ i → value_from v (drop i bs) ≡ w → Some v ≡ w
unfolding value_from
value_ends v bs i w h e = sym (ap (value_from v) (drop_of_length-le bs h)) ∙ e

-- ---- all of a list, at a place

pub all_at : (P : ℕ → Type 0) (xs : List ℕ) (i : ℕ) → AllByRecursion P xs → i < length xs → P (get_or xs i 0)
all_at P [] i all h = absurd (omega arith)
all_at P (x ∷ xs) zero all h = all.0
all_at P (x ∷ xs) (suc i) all h = all_at P xs i all.1 (omega arith)

pub take_next : (xs : List ℕ) (i : ℕ) → i < length xs → take (i + 1) xs ≡ take i xs ++ get_or xs i 0 ∷ []
take_next xs i h = ap (λ n. take n xs) (add-one i) ∙ take-suc xs i 0 h

fold_on : (f : ℕ → ℕ → ℕ) (z : ℕ) (xs : List ℕ) (x : ℕ) → fold f z (xs ++ x ∷ []) ≡ f (fold f z xs) x
fold_on f z [] x = refl
fold_on f z (y ∷ ys) x = fold_on f (f z y) ys x

pub fold_next : (f : ℕ → ℕ → ℕ) (z : ℕ) (xs : List ℕ) (i : ℕ) → i < length xs → fold f z (take (i + 1) xs) ≡ f (fold f z (take i xs)) (get_or xs i 0)
fold_next f z xs i h = ap (fold f z) (take_next xs i h) ∙ fold_on f z (take i xs) (get_or xs i 0)

pub line_bound : (line b : ℕ) → line_after line b ≤ line + 1
line_bound line b = go (b == 10)
  where
    go : (t : Bool) → cond t (line + 1) line ≤ line + 1
    go true = omega arith
    go false = omega arith

-- ---- a step of a text

-- how far a text was read
pub record Reached (text : List ℕ) (ts : List Token) (line : ℕ) (rest : List ℕ) : Type 0 where
  pub is : IsLexed 1 text ts line rest
  pub fits : line + length rest ≤ length text + 1

pub reached_first : (text : List ℕ) → Reached text [] 1 text
reached_first text = record { is = here; fits = omega arith }

pub step_is : (line : ℕ) (rest : List ℕ) (y : List Token × ℕ × List ℕ) → Some y ≡ scanned_step line rest → IsTokenStep line rest y.0 y.1 y.2
step_is line rest y e = next_is line rest y (sym e)

pub reached_next : (text : List ℕ) (ts us : List Token) (line : ℕ) (rest : List ℕ) (y : List Token × ℕ × List ℕ) → Reached text ts line rest → Some y ≡ scanned_step line rest → us ≡ ts ++ y.0 → Reached text us y.1 y.2
reached_next text ts us line rest y r e grown =
    let n = step_is line rest y e in
    let shorter = step_shorter n in
    let close = step_line n in
    let f = r.fits in
    record { is = subst (λ z. IsLexed 1 text z y.1 y.2) (sym grown) (further r.is n); fits = omega arith }

pub reached_shorter : (line : ℕ) (rest : List ℕ) (y : List Token × ℕ × List ℕ) → Some y ≡ scanned_step line rest → length y.2 < length rest
reached_shorter line rest y e = step_shorter (step_is line rest y e)

pub reached_break : (line : ℕ) (rest : List ℕ) → 0 < length rest → None ≡ scanned_step line rest → IsBroken line rest
reached_break line rest h e = broken_at line rest h (sym e)
