-- Readers that read few tokens alike: each of the same tokens gives the same, and none gives back more than it was given
use Rattle.std.proofs.Common.{◌≡◌, ℕ, zero, suc, ◌+◌, ◌<◌, ◌≤◌, Bool, true, false, cond, List, [], ◌∷◌, ◌++◌, length, length-append, refl, sym, ap, ap₂, ◌∙◌, arith}
use Rattle.std.specs.Prelude.{Ok, Err}
use Rattle.std.proofs.lemmas.List.{append-nil}
use Rattle.roc_lang.specs.Tokens.{Kind, Token}
use Rattle.roc_lang.specs.Grammar.{comma}
use Rattle.roc_lang_parse.proofs.Spared.{token_takes}
use Rattle.roc_lang_parse.specs.Stuck.{Reading, ◌>>=◌, exceed, head_is}
use Rattle.roc_lang_parse.specs.Parts.{has_mark, mark_at, many_at, some_at, behind_comma_at, separated_at}
use Rattle.roc_lang_parse.proofs.Exact.{Rule, Stop, IsStopAt, Exact, ok_same, ok-err, when_ok, bind}
use Rattle.roc_lang_parse.proofs.Choices.{mapped}
use Rattle.roc_lang_parse.proofs.Terminals.{exact_mark}

pub record Alike {A : Type 0} (n : ℕ) (p q : List Token → Reading A) : Type 0 where
  pub same : (ts : List Token) → length ts ≤ n → p ts ≡ q ts
  pub left : (ts us : List Token) (x : A) → p ts ≡ Ok (x, us) → length us ≤ length ts

-- it takes something
abbrev pub Takes : {A : Type 0} → (List Token → Reading A) → Type 0
Takes {A} p = (ts us : List Token) (x : A) → p ts ≡ Ok (x, us) → length us < length ts

-- ---- exact readers

shrinks : {A : Type 0} {In Any : Rule A} {stop : Stop} {r s : List Token → Reading A} → Exact In Any stop r s → (ts us : List Token) (x : A) → r ts ≡ Ok (x, us) → length us ≤ length ts
shrinks e ts us x read =
    let c = e.reads ts us x read in
    let whole : length ts ≡ length c.taken + length us = ap length c.split ∙ length-append c.taken us in
    omega (arith, whole)

pub alone : {A : Type 0} {In Any : Rule A} {stop : Stop} {r s : List Token → Reading A} (n : ℕ) → Exact In Any stop r s → Alike n r r
alone n e = record { same = λ ts h. refl; left = shrinks e }

-- so does a reader of a rule of which each sentence has a token
pub takes_some : {A : Type 0} {In Any : Rule A} {stop : Stop} {r s : List Token → Reading A} → Exact In Any stop r s → IsStopAt stop []
    → ((a b : List Token) (x : A) → In a b x → length b < length a) → Takes r
takes_some e end some ts us x read =
    let c = e.reads ts us x read in
    let whole : length ts ≡ length c.taken + length us = ap length c.split ∙ length-append c.taken us in
    let token : 0 < length (c.taken ++ []) = some (c.taken ++ []) [] x (c.is [] end) in
    let bare : length (c.taken ++ []) ≡ length c.taken = ap length (append-nil c.taken) in
    omega (arith, whole, token, bare)

-- ---- one behind the other, and one of two

le_both : (a b c : ℕ) → a ≤ b → b ≤ c → a ≤ c
le_both a b c h k = omega (arith, h, k)

pub alike_bind : {A B : Type 0} {n : ℕ} {p p' : List Token → Reading A} {q q' : A → List Token → Reading B} → Alike n p p' → ((x : A) → Alike n (q x) (q' x)) → Alike n (bind p q) (bind p' q')
alike_bind {A = A} {B = B} {n = n} {p = p} {p' = p'} {q = q} {q' = q'} a b = record {
  same = λ ts h. go ts h (p ts) refl;
  left = λ ts us y read. when_ok (p ts) (λ x. q x.0 x.1) (y, us) read (λ x first others. le_both _ _ _ ((b x.0).left x.1 us y others) (a.left ts x.1 x.0 first));
}
  where
    go : (ts : List Token) → length ts ≤ n → (r : Reading A) → p ts ≡ r → bind p q ts ≡ bind p' q' ts
    go ts h (Ok x) e =
        let other : p' ts ≡ Ok x = sym (a.same ts h) ∙ e in
        ap (λ r. r >>= λ x. q x.0 x.1) e ∙ (b x.0).same x.1 (le_both _ _ _ (a.left ts x.1 x.0 e) h) ∙ sym (ap (λ r. r >>= λ x. q' x.0 x.1) other)
    go ts h (Err s) e =
        let other : p' ts ≡ Err s = sym (a.same ts h) ∙ e in
        ap (λ r. r >>= λ x. q x.0 x.1) e ∙ sym (ap (λ r. r >>= λ x. q' x.0 x.1) other)

-- a value that takes nothing
pub alike_given : {A : Type 0} (n : ℕ) (x : A) → Alike n (λ ts. Ok (x, ts)) (λ ts. Ok (x, ts))
alike_given n x = record { same = λ ts h. refl; left = λ ts us y read. let e = ap (λ z. length z.1) (ok_same (x, ts) (y, us) read) in omega (arith, e) }

pub alike_mapped : {A B : Type 0} {n : ℕ} {p p' : List Token → Reading A} (f : A → B) → Alike n p p' → Alike n (mapped f p) (mapped f p')
alike_mapped {n = n} f a = alike_bind a (λ x. alike_given n (f x))

chosen_left : {A : Type 0} (b : Bool) (p q : Reading A) (ts us : List Token) (x : A) → (p ≡ Ok (x, us) → length us ≤ length ts) → (q ≡ Ok (x, us) → length us ≤ length ts) → cond b p q ≡ Ok (x, us)
    → length us ≤ length ts
chosen_left true p q ts us x h k read = h read
chosen_left false p q ts us x h k read = k read

pub alike_choice : {A : Type 0} {n : ℕ} (test : Kind → Bool) {p p' q q' : List Token → Reading A} → Alike n p p' → Alike n q q'
    → Alike n (λ ts. cond (head_is test ts) (p ts) (q ts)) (λ ts. cond (head_is test ts) (p' ts) (q' ts))
alike_choice test {p = p} {q = q} a b = record {
  same = λ ts h. ap₂ (λ x y. cond (head_is test ts) x y) (a.same ts h) (b.same ts h);
  left = λ ts us x read. chosen_left (head_is test ts) (p ts) (q ts) ts us x (a.left ts us x) (b.left ts us x) read;
}

-- ---- several

alike_past : {A : Type 0} (n : ℕ) → Alike {A = A} n exceed exceed
alike_past n = record { same = λ ts h. refl; left = λ ts us x read. absurd (ok-err (x, us) (record { past = true; rest = ts }) (sym read)) }

pub alike_many : {A : Type 0} {n : ℕ} (starts : Kind → Bool) {item item' : List Token → Reading A} → Alike n item item' → (room : ℕ) → Alike n (many_at starts item room) (many_at starts item' room)
unfolding many_at
alike_many {n = n} starts a zero = alike_choice starts (alike_past n) (alike_given n [])
alike_many {n = n} starts a (suc room) = alike_choice starts (alike_bind a (λ x. alike_mapped (λ xs. x ∷ xs) (alike_many starts a room))) (alike_given n [])

pub alike_some : {A : Type 0} {n : ℕ} (starts : Kind → Bool) {item item' : List Token → Reading A} → Alike n item item' → (more : ℕ) → Alike n (some_at starts item item more) (some_at starts item' item' more)
unfolding some_at
alike_some {n = n} starts a more = alike_bind a (λ x. alike_mapped (λ xs. x ∷ xs) (alike_many starts a more))

-- ---- several with room for all tokens

-- where there is room for as many as there are tokens, it does not matter for how many
nothing_more : {A : Type 0} (starts : Kind → Bool) (item : List Token → Reading A) (room : ℕ) → many_at starts item room [] ≡ Ok ([], [])
unfolding many_at
nothing_more starts item zero = refl
nothing_more starts item (suc room) = refl

roomy : {A : Type 0} (starts : Kind → Bool) (item : List Token → Reading A) → Takes item → (room other : ℕ) (ts : List Token) → length ts ≤ room → length ts ≤ other
    → many_at starts item room ts ≡ many_at starts item other ts
unfolding many_at
roomy starts item takes room other [] h k = nothing_more starts item room ∙ sym (nothing_more starts item other)
roomy starts item takes zero other (t ∷ ts) h k = absurd (omega (arith, h))
roomy starts item takes (suc room) zero (t ∷ ts) h k = absurd (omega (arith, k))
roomy {A = A} starts item takes (suc room) (suc other) (t ∷ ts) h k =
    ap (λ z. cond (head_is starts (t ∷ ts)) z (Ok ([], t ∷ ts))) (go (roomy starts item takes room other) (item (t ∷ ts)) refl)
  where
    rest : ℕ → A → List Token → Reading (List A)
    rest n x = mapped (λ xs. x ∷ xs) (many_at starts item n)

    go : ((us : List Token) → length us ≤ room → length us ≤ other → many_at starts item room us ≡ many_at starts item other us) → (r : Reading A) → item (t ∷ ts) ≡ r
        → bind item (rest room) (t ∷ ts) ≡ bind item (rest other) (t ∷ ts)
    go again (Ok x) e =
        let fewer = takes (t ∷ ts) x.1 x.0 e in
        let here : many_at starts item room x.1 ≡ many_at starts item other x.1 = again x.1 (omega (arith, fewer, h)) (omega (arith, fewer, k)) in
        ap (λ r. r >>= λ x. rest room x.0 x.1) e ∙ ap (λ r. r >>= λ y. Ok (x.0 ∷ y.0, y.1)) here ∙ sym (ap (λ r. r >>= λ x. rest other x.0 x.1) e)
    go again (Err s) e = ap (λ r. r >>= λ x. rest room x.0 x.1) e ∙ sym (ap (λ r. r >>= λ x. rest other x.0 x.1) e)

comma_takes : {A : Type 0} (item : List Token → Reading A) → Takes item → Takes (behind_comma_at item)
unfolding behind_comma_at
comma_takes item takes ts us x read =
    when_ok (mark_at comma ts) (λ m. item m.1) (x, us) read (λ m first others.
    let one = takes_some (exact_mark comma) refl (λ a b x h. token_takes h) ts m.1 m.0 first in
    let two = takes m.1 us x others in
    omega (arith, one, two))

pub alike_separated : {A : Type 0} {n : ℕ} (item : List Token → Reading A) → Takes item → (more other : ℕ) → n ≤ more + 1 → n ≤ other + 1 → Alike n (separated_at item more) (separated_at item other)
unfolding some_at
alike_separated {A = A} {n = n} item takes more other h k = record { same = λ ts fits. go ts fits (item ts) refl; left = shorter }
  where
    next : List Token → Reading A
    next = behind_comma_at item

    rest : ℕ → A → List Token → Reading (List A)
    rest m x = mapped (λ xs. x ∷ xs) (many_at (has_mark comma) next m)

    go : (ts : List Token) → length ts ≤ n → (r : Reading A) → item ts ≡ r → bind item (rest more) ts ≡ bind item (rest other) ts
    go ts fits (Ok x) e =
        let fewer = takes ts x.1 x.0 e in
        let here = roomy (has_mark comma) next (comma_takes item takes) more other x.1 (omega (arith, fewer, fits, h)) (omega (arith, fewer, fits, k)) in
        ap (λ r. r >>= λ x. rest more x.0 x.1) e ∙ ap (λ r. r >>= λ y. Ok (x.0 ∷ y.0, y.1)) here ∙ sym (ap (λ r. r >>= λ x. rest other x.0 x.1) e)
    go ts fits (Err s) e = ap (λ r. r >>= λ x. rest more x.0 x.1) e ∙ sym (ap (λ r. r >>= λ x. rest other x.0 x.1) e)

    weak : {B : Type 0} (p : List Token → Reading B) → Takes p → Alike n p p
    weak p some = record { same = λ ts fits. refl; left = λ ts us x read. let one = some ts us x read in omega (arith, one) }

    shorter : (ts us : List Token) (xs : List A) → bind item (rest more) ts ≡ Ok (xs, us) → length us ≤ length ts
    shorter = (alike_bind (weak item takes) (λ x. alike_mapped (λ xs. x ∷ xs) (alike_many (has_mark comma) (weak next (comma_takes item takes)) more))).left
