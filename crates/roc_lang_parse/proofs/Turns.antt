-- Reading one after the other, as the loops of the code do.
use Rattle.std.proofs.Common.{◌≡◌, ℕ, zero, suc, ◌+◌, ◌-◌, ◌<◌, ◌≤◌, Bool, true, false, List, [], ◌∷◌, ◌++◌, append_assoc, refl, sym, ap, ◌∙◌, arith}
use Rattle.std.specs.Prelude.{Ok, Err, nat_lt}
use Rattle.std.proofs.lemmas.Bool.{lt-ltb}
use Rattle.std.proofs.lemmas.Bool.Decides.{nat_tests}
use Rattle.std.proofs.lemmas.List.{append-nil}
use Rattle.roc_lang.specs.Tokens.{Kind, Token}
use Rattle.roc_lang_parse.specs.Stuck.{Stuck, Reading, ◌>>=◌, head_is}
use Rattle.roc_lang_parse.specs.declared.refusal.Refusal.{Refusal}
use Rattle.roc_lang_parse.specs.declared.refusal.Refusal.TheVariants as refusals
use Rattle.roc_lang_parse.specs.Inner.Views.{StopsAs}
use Rattle.roc_lang_parse.specs.Parts.{with_front, many_at}
use Rattle.roc_lang_parse.specs.Reading.{Deep, loop_at, rooms, deep_at, sum_with, sum_at}

-- ---- expressions by those with less room

below_is : (k : ℕ) (ts : List Token) → (rooms k).below ts ≡ deep_at (k - 1) ts
unfolding rooms
below_is zero ts = refl
below_is (suc k) ts = let same : k ≡ suc k - 1 = omega arith in ap (λ z. deep_at z ts) same

lower_is : (k : ℕ) (ts : List Token) → (rooms k).lower ts ≡ deep_at (k - 1 - 1) ts
unfolding rooms
lower_is zero ts = refl
lower_is (suc k) ts = let same : k ≡ suc k - 1 = omega arith in below_is k ts ∙ ap (λ z. deep_at (z - 1) ts) same

funext : {A : Type 0} (f g : List Token → Reading A) → ((ts : List Token) → f ts ≡ g ts) → f ≡ g
funext f g e = λ i ts. e ts i

pub deep_is_sum : (room : ℕ) (ts : List Token) → 0 < room → deep_at room ts ≡ sum_at room ts
unfolding rooms
deep_is_sum zero ts h = absurd (omega arith)
deep_is_sum (suc k) ts h =
    let same : k ≡ suc k - 1 = omega arith in
    let b = funext (rooms k).below (deep_at (k - 1)) (below_is k) in
    let l = funext (rooms k).lower (deep_at (k - 1 - 1)) (lower_is k) in
    ap (λ z. sum_with (deep_at k) z (rooms k).lower (suc k) ts) b ∙ ap (λ z. sum_with (deep_at k) (deep_at (k - 1)) z (suc k) ts) l ∙ ap (λ z. sum_with (deep_at z) (deep_at (z - 1)) (deep_at (z - 1 - 1)) (suc k) ts) same

-- ---- operators in a row

pub loop_stops : {B : Type 0} (starts : Kind → Bool) (item : List Token → Reading B) (join : Deep → B → Deep) (room n : ℕ) (v : Deep) (ts : List Token) (w : Reading Deep) → head_is starts ts ≡ false → loop_at starts item join room n v ts ≡ w → w ≡ Ok (v, ts)
unfolding loop_at
loop_stops starts item join room zero v ts w e so_far = sym so_far ∙ rw e refl
loop_stops starts item join room (suc n) v ts w e so_far = sym so_far ∙ rw e refl

pub loop_past : {B : Type 0} (starts : Kind → Bool) (item : List Token → Reading B) (join : Deep → B → Deep) (room n : ℕ) (v : Deep) (ts : List Token) (w : Reading Deep) → head_is starts ts ≡ true → room ≤ v.1 → loop_at starts item join room n v ts ≡ w → w ≡ Err (record { past = true; rest = ts })
unfolding loop_at
loop_past starts item join room zero v ts w e full so_far = sym so_far ∙ rw e refl
loop_past starts item join room (suc n) v ts w e full so_far = let f : nat_lt v.1 room ≡ false = grind (arith, nat_tests) in sym so_far ∙ rw (e, f) refl

pub loop_is_full : {B : Type 0} (starts : Kind → Bool) (item : List Token → Reading B) (join : Deep → B → Deep) (room n c : ℕ) (v : Deep) (ts : List Token) (w : Reading Deep) → n ≤ c → head_is starts ts ≡ true → loop_at starts item join room (n - c) v ts ≡ w → w ≡ Err (record { past = true; rest = ts })
unfolding loop_at
loop_is_full starts item join room n c v ts w h e so_far =
    let none : n - c ≡ zero = omega arith in
    sym so_far ∙ ap (λ z. loop_at starts item join room z v ts) none ∙ rw e refl

pub loop_fails : {B : Type 0} (starts : Kind → Bool) (item : List Token → Reading B) (join : Deep → B → Deep) (room n c : ℕ) (v : Deep) (ts : List Token) (w : Reading Deep) (s : Stuck) → c < n → head_is starts ts ≡ true → v.1 < room → item ts ≡ Err s → loop_at starts item join room (n - c) v ts ≡ w → w ≡ Err s
unfolding loop_at
loop_fails starts item join room n c v ts w s h e lower bad so_far =
    let more : n - c ≡ suc (n - c - 1) = omega arith in
    sym so_far ∙ ap (λ z. loop_at starts item join room z v ts) more ∙ rw (e, lt-ltb v.1 room lower, bad) refl

pub loop_refuses : {B : Type 0} (starts : Kind → Bool) (item : List Token → Reading B) (join : Deep → B → Deep) (room n c : ℕ) (v : Deep) (ts : List Token) (w : Reading Deep) (e : Refusal) → c < n → head_is starts ts ≡ true → v.1 < room → StopsAs e (item ts) → loop_at starts item join room (n - c) v ts ≡ w → StopsAs e w
loop_refuses starts item join room n c v ts w refusals.NoMemory h e lower bad so_far = tt
loop_refuses starts item join room n c v ts w (refusals.At l r) h e lower bad so_far = loop_fails starts item join room n c v ts w _ h e lower bad so_far

pub loop_goes_on : {B : Type 0} (starts : Kind → Bool) (item : List Token → Reading B) (join : Deep → B → Deep) (room n c : ℕ) (v : Deep) (ts us : List Token) (x : B) (w : Reading Deep) → c < n → head_is starts ts ≡ true → v.1 < room → item ts ≡ Ok (x, us) → loop_at starts item join room (n - c) v ts ≡ w
    → loop_at starts item join room (n - (c + 1)) (join v x) us ≡ w
unfolding loop_at
loop_goes_on starts item join room n c v ts us x w h e lower one so_far =
    let more : n - c ≡ suc (n - (c + 1)) = omega arith in
    sym (ap (λ z. loop_at starts item join room z v ts) more ∙ rw (e, lt-ltb v.1 room lower, one) refl) ∙ so_far

-- ---- several

pub many_stops : {A : Type 0} (starts : Kind → Bool) (item : List Token → Reading A) (n : ℕ) (front : List A) (ts : List Token) (w : Reading (List A)) → head_is starts ts ≡ false → with_front front (many_at starts item n ts) ≡ w → w ≡ Ok (front, ts)
unfolding many_at
many_stops starts item zero front ts w e so_far = sym so_far ∙ rw e (ap (λ z. Ok (z, ts)) (append-nil front))
many_stops starts item (suc n) front ts w e so_far = sym so_far ∙ rw e (ap (λ z. Ok (z, ts)) (append-nil front))

pub many_is_full : {A : Type 0} (starts : Kind → Bool) (item : List Token → Reading A) (n c : ℕ) (front : List A) (ts : List Token) (w : Reading (List A)) → n ≤ c → head_is starts ts ≡ true → with_front front (many_at starts item (n - c) ts) ≡ w → w ≡ Err (record { past = true; rest = ts })
unfolding many_at
many_is_full starts item n c front ts w h e so_far =
    let none : n - c ≡ zero = omega arith in
    sym so_far ∙ ap (λ z. with_front front (many_at starts item z ts)) none ∙ rw e refl

pub many_fails : {A : Type 0} (starts : Kind → Bool) (item : List Token → Reading A) (n c : ℕ) (front : List A) (ts : List Token) (w : Reading (List A)) (s : Stuck) → c < n → head_is starts ts ≡ true → item ts ≡ Err s → with_front front (many_at starts item (n - c) ts) ≡ w → w ≡ Err s
unfolding many_at
many_fails starts item n c front ts w s h e bad so_far =
    let more : n - c ≡ suc (n - c - 1) = omega arith in
    sym so_far ∙ ap (λ z. with_front front (many_at starts item z ts)) more ∙ rw (e, bad) refl

pub many_refuses : {A : Type 0} (starts : Kind → Bool) (item : List Token → Reading A) (n c : ℕ) (front : List A) (ts : List Token) (w : Reading (List A)) (e : Refusal) → c < n → head_is starts ts ≡ true → StopsAs e (item ts) → with_front front (many_at starts item (n - c) ts) ≡ w → StopsAs e w
many_refuses starts item n c front ts w refusals.NoMemory h e bad so_far = tt
many_refuses starts item n c front ts w (refusals.At l r) h e bad so_far = many_fails starts item n c front ts w _ h e bad so_far

moved : {A : Type 0} (front : List A) (x : A) (r : Reading (List A)) → with_front front (r >>= λ z. Ok (x ∷ z.0, z.1)) ≡ with_front (front ++ x ∷ []) r
moved front x (Ok z) = ap (λ y. Ok (y, z.1)) (sym (append_assoc front (x ∷ []) z.0))
moved front x (Err s) = refl

pub many_goes_on : {A : Type 0} (starts : Kind → Bool) (item : List Token → Reading A) (n c : ℕ) (front : List A) (ts us : List Token) (x : A) (w : Reading (List A)) → c < n → head_is starts ts ≡ true → item ts ≡ Ok (x, us) → with_front front (many_at starts item (n - c) ts) ≡ w
    → with_front (front ++ x ∷ []) (many_at starts item (n - (c + 1)) us) ≡ w
unfolding many_at
many_goes_on starts item n c front ts us x w h e one so_far =
    let more : n - c ≡ suc (n - (c + 1)) = omega arith in
    sym (moved front x (many_at starts item (n - (c + 1)) us)) ∙ sym (ap (λ z. with_front front (many_at starts item z ts)) more ∙ rw (e, one) refl) ∙ so_far

pub many_starts : {A : Type 0} (r : Reading (List A)) → with_front [] r ≡ r
many_starts (Ok x) = refl
many_starts (Err s) = refl
