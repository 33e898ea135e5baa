-- Readers that read exactly what is spelled, composed as fields are
use Rattle.std.proofs.Common.{◌≡◌, ℕ, zero, suc, ◌+◌, ◌^◌, ◌<◌, ◌≤◌, Bool, true, false, cond, ltb, List, [], ◌∷◌, ◌++◌, length, take, drop, Result, Ok, Err, refl, sym, ap, subst, ◌∙◌, append_assoc, arith, inl, inr}
use Rattle.std.specs.Prelude.{nat_le, ◌&&◌}
use Rattle.std.specs.Int.{Width, w8, w16, w32, w64, byte_len, from_be_bytes, to_be_bytes}
use Rattle.std.specs.List.{flat_map}
use Rattle.std.proofs.lemmas.Bool.{cases_lt, ltb-false, le-ltb}
use Rattle.std.proofs.lemmas.List.{take_at, drop_at, take-append-drop, length-append, length-take, get_or-drop, get_or-take, get_or_past}
use Rattle.std.proofs.lemmas.List.Concat.{flat_map-cons}
use Rattle.std.proofs.lemmas.Nat.{be_bytes_2, be_bytes_4, be_bytes_8, from_be_bytes-to_be_bytes_2, from_be_bytes-to_be_bytes_4, from_be_bytes-to_be_bytes_8}
use Rattle.roc_wire.specs.declared.fault.WireFault.{WireFault}
use Rattle.roc_wire.specs.declared.fault.WireFault.TheVariants.{Short, Count}
use Rattle.roc_wire.specs.Fits.{AllAlong}
use Rattle.roc_wire.specs.Spelling.{counted_bytes}
use Rattle.roc_wire.specs.Reading.{IsBytes, ◌>>=◌, Field, number_read, bytes_read, then_read, made_read, judged_read, several_read, within_read, counted_read}

IsBytes-drop : (n : ℕ) (bytes : List ℕ) → IsBytes bytes → IsBytes (drop n bytes)
IsBytes-drop n bytes h i = rw get_or-drop (h (n + i))

IsBytes-take : (n : ℕ) (bytes : List ℕ) → IsBytes bytes → IsBytes (take n bytes)
IsBytes-take n bytes h i =
    elim (cases_lt i n) [
      | inl lt ↦ rw (get_or-take n bytes i 0 lt) (h i)
      | inr le ↦ rw (get_or_past (take n bytes) i 0 (omega (arith, length-take n bytes))) (omega arith)
    ]

pub bind_ok : {A B : Type 0} (r : Result A WireFault) (f : A → Result B WireFault) (y : B) → (r >>= f) ≡ Ok y → (x : A) × (r ≡ Ok x) × (f x ≡ Ok y)
bind_ok (Ok x) f y e = (x, refl, e)
bind_ok (Err d) f y e = absurd cc

guard_ok : {A : Type 0} (b : Bool) (d : WireFault) (x y : A) → cond b (Err d) (Ok x) ≡ Ok y → (b ≡ false) × (x ≡ y)
guard_ok true d x y e = absurd cc
guard_ok false d x y e = (refl, cc)

pub test_ok : {A : Type 0} (b : Bool) (d : WireFault) (x y : A) → cond b (Ok x) (Err d) ≡ Ok y → (b ≡ true) × (x ≡ y)
test_ok true d x y e = (refl, cc)
test_ok false d x y e = absurd cc

abbrev pub done : {A : Type 0} → A → Result A WireFault
done x = Ok x

pub ok_is : {A : Type 0} (x y : A) → done x ≡ done y → x ≡ y
ok_is x y e = cc

-- what a reader took from the front
pub record Takes (bytes text rest : List ℕ) : Type 0 where
  pub parts : bytes ≡ text ++ rest
  pub rest_fits : IsBytes rest

Takes-then : (a x b y c : List ℕ) → Takes a x b → Takes b y c → Takes a (x ++ y) c
Takes-then a x b y c p q = record { parts = p.parts ∙ ap (λ (t : List ℕ). x ++ t) q.parts ∙ sym (append_assoc x y c); rest_fits = q.rest_fits }

-- the reader reads a spelling of what fits, and nothing else
pub record IsField {X : Type 0} (read : Field X) (spell : X → List ℕ) (fits : X → Type 0) : Type 0 where
  pub takes : (bytes : List ℕ) (x : X) (rest : List ℕ) → IsBytes bytes → read bytes ≡ Ok (x, rest) → Takes bytes (spell x) rest × fits x
  pub again : (x : X) (rest : List ℕ) → fits x → read (spell x ++ rest) ≡ Ok (x, rest)

-- one behind the other
pub then_field : {A B : Type 0} (r : Field A) (s : A → List ℕ) (f : A → Type 0) (q : A → Field B) (t : A → B → List ℕ) (g : A → B → Type 0)
    → IsField r s f → ((a : A) → f a → IsField (q a) (t a) (g a)) → IsField (then_read r q) (λ p. s p.0 ++ t p.0 p.1) (λ p. f p.0 × g p.0 p.1)
then_field {A} {B} r s f q t g first second = record {
  takes = λ bytes p rest fits e.
      let a = bind_ok (r bytes) (λ a. q a.0 a.1 >>= λ b. Ok ((a.0, b.0), b.1)) (p, rest) e in
      let b = bind_ok (q a.0.0 a.0.1) (λ b. Ok ((a.0.0, b.0), b.1)) (p, rest) a.2 in
      let one = first.takes bytes a.0.0 a.0.1 fits a.1 in
      let two = (second a.0.0 one.1).takes a.0.1 b.0.0 b.0.1 one.0.rest_fits b.1 in
      let same = ok_is ((a.0.0, b.0.0), b.0.1) (p, rest) b.2 in
      let P : (A × B) × List ℕ → Type 0 = λ x. Takes bytes (s x.0.0 ++ t x.0.0 x.0.1) x.1 × (f x.0.0 × g x.0.0 x.0.1) in
      subst P same (Takes-then bytes (s a.0.0) a.0.1 (t a.0.0 b.0.0) b.0.1 one.0 two.0, (one.1, two.1));
  again = λ p rest fits.
      ap (λ l. r l >>= λ a. q a.0 a.1 >>= λ b. Ok ((a.0, b.0), b.1)) (append_assoc (s p.0) (t p.0 p.1) rest)
      ∙ ap (λ o. o >>= λ a. q a.0 a.1 >>= λ b. Ok ((a.0, b.0), b.1)) (first.again p.0 (t p.0 p.1 ++ rest) fits.0)
      ∙ ap (λ o. o >>= λ b. Ok ((p.0, b.0), b.1)) ((second p.0 fits.0).again p.1 rest fits.1);
}

-- what is made of a field
pub made_field : {A B : Type 0} (r : Field A) (s : A → List ℕ) (f : A → Type 0) (make : A → B) (t : B → List ℕ) (g : B → Type 0)
    → IsField r s f → ((a : A) → f a → g (make a) × (s a ≡ t (make a))) → ((b : B) → g b → (a : A) × f a × (make a ≡ b)) → IsField (made_read make r) t g
made_field {A} {B} r s f make t g field to back = record {
  takes = λ bytes b rest fits e.
      let a = bind_ok (r bytes) (λ a. Ok (make a.0, a.1)) (b, rest) e in
      let one = field.takes bytes a.0.0 a.0.1 fits a.1 in
      let fit = to a.0.0 one.1 in
      let same = ok_is (make a.0.0, a.0.1) (b, rest) a.2 in
      subst (λ (x : B × List ℕ). Takes bytes (t x.0) x.1 × g x.0) same (subst (λ (l : List ℕ). Takes bytes l a.0.1) fit.1 one.0, fit.0);
  again = λ b rest fits.
      let a = back b fits in
      let one : made_read make r (s a.0 ++ rest) ≡ Ok (make a.0, rest) = ap (λ o. o >>= λ x. Ok (make x.0, x.1)) (field.again a.0 rest a.1) in
      let text : t b ++ rest ≡ s a.0 ++ rest = ap (λ (x : B). t x ++ rest) (sym a.2) ∙ ap (λ (l : List ℕ). l ++ rest) (sym (to a.0 a.1).1) in
      ap (made_read make r) text ∙ one ∙ ap (λ (x : B). done (x, rest)) a.2;
}

-- where a test holds
pub judged_field : {A : Type 0} (r : Field A) (s : A → List ℕ) (f : A → Type 0) (test : A → Bool) (d : WireFault)
    → IsField r s f → IsField (judged_read test d r) s (λ a. f a × (test a ≡ true))
judged_field {A} r s f test d field = record {
  takes = λ bytes x rest fits e.
      let a = bind_ok (r bytes) (λ a. cond (test a.0) (Ok (a.0, a.1)) (Err d)) (x, rest) e in
      let one = field.takes bytes a.0.0 a.0.1 fits a.1 in
      let passed = test_ok (test a.0.0) d (a.0.0, a.0.1) (x, rest) a.2 in
      subst (λ (y : A × List ℕ). Takes bytes (s y.0) y.1 × (f y.0 × (test y.0 ≡ true))) passed.1 (one.0, (one.1, passed.0));
  again = λ x rest fits.
      ap (λ o. o >>= λ a. cond (test a.0) (Ok (a.0, a.1)) (Err d)) (field.again x rest fits.0)
      ∙ ap (λ (b : Bool). cond b (done (x, rest)) (Err d)) fits.1;
}

-- the same, said otherwise
pub as_field : {C : Type 0} (r : Field C) (s : C → List ℕ) (f g : C → Type 0) → IsField r s f → ((c : C) → f c → g c) → ((c : C) → g c → f c) → IsField r s g
as_field r s f g p to back = record {
  takes = λ bytes c rest fits e. let o = p.takes bytes c rest fits e in (o.0, to c o.1);
  again = λ c rest h. p.again c rest (back c h);
}

-- one more in front of what is read behind it
abbrev cons_at : {A : Type 0} → A → List A × List ℕ → Result (List A × List ℕ) WireFault
cons_at a b = Ok (a ∷ b.0, b.1)

-- so many, one after the other; P holds all along
pub several_field : {A S : Type 0} (read : S → Field A) (next : S → A → S) (spell : A → List ℕ) (fits : S → A → Type 0) (P : S → Type 0) → ((s : S) (a : A) → P s → fits s a → P (next s a)) → ((s : S) → P s → IsField (read s) spell (fits s))
    → (n : ℕ) (s : S) → P s → IsField (several_read read next n s) (flat_map spell) (λ xs. (length xs ≡ n) × AllAlong fits next s xs)
unfolding several_read
several_field {A} {S} read next spell fits P kept each zero s p = record {
  takes = λ bytes xs rest h e.
      let same = ok_is ([], bytes) (xs, rest) e in
      subst (λ (y : List A × List ℕ). Takes bytes (flat_map spell y.0) y.1 × ((length y.0 ≡ 0) × AllAlong fits next s y.0)) same (record { parts = refl; rest_fits = h }, (refl, tt));
  again = λ xs rest h. none xs rest h.0;
}
  where
    none : (xs : List A) (rest : List ℕ) → length xs ≡ 0 → done {A = List A × List ℕ} ([], flat_map spell xs ++ rest) ≡ Ok (xs, rest)
    none [] rest e = refl
    none (x ∷ xs) rest e = absurd (omega arith)
several_field {A} {S} read next spell fits P kept each (suc n) s p = record {
  takes = λ bytes xs rest h e.
      let a = bind_ok (read s bytes) (λ a. several_read read next n (next s a.0) a.1 >>= cons_at a.0) (xs, rest) e in
      let b = bind_ok (several_read read next n (next s a.0.0) a.0.1) (cons_at a.0.0) (xs, rest) a.2 in
      let one = (each s p).takes bytes a.0.0 a.0.1 h a.1 in
      let two = (several_field read next spell fits P kept each n (next s a.0.0) (kept s a.0.0 p one.1)).takes a.0.1 b.0.0 b.0.1 one.0.rest_fits b.1 in
      let same = ok_is (a.0.0 ∷ b.0.0, b.0.1) (xs, rest) b.2 in
      let text = Takes-then bytes (spell a.0.0) a.0.1 (flat_map spell b.0.0) b.0.1 one.0 two.0 in
      subst (λ (y : List A × List ℕ). Takes bytes (flat_map spell y.0) y.1 × ((length y.0 ≡ suc n) × AllAlong fits next s y.0)) same
      (subst (λ (l : List ℕ). Takes bytes l b.0.1) (sym (flat_map-cons spell a.0.0 b.0.0)) text, (ap suc two.1.0, (one.1, two.1.1)));
  again = λ xs rest h. more (several_field read next spell fits P kept each n) xs rest h;
}
  where
    more : ((s : S) → P s → IsField (several_read read next n s) (flat_map spell) (λ xs. (length xs ≡ n) × AllAlong fits next s xs)) → (xs : List A) (rest : List ℕ) → (length xs ≡ suc n) × AllAlong fits next s xs
        → (read s (flat_map spell xs ++ rest) >>= λ a. several_read read next n (next s a.0) a.1 >>= cons_at a.0) ≡ Ok (xs, rest)
    more ih [] rest h = let e = h.0 in absurd (omega arith)
    more ih (x ∷ xs) rest h =
        let count = h.0 in
        let text : flat_map spell (x ∷ xs) ++ rest ≡ spell x ++ (flat_map spell xs ++ rest) = ap (λ (l : List ℕ). l ++ rest) (flat_map-cons spell x xs) ∙ append_assoc (spell x) (flat_map spell xs) rest in
        ap (λ l. read s l >>= λ a. several_read read next n (next s a.0) a.1 >>= cons_at a.0) text
        ∙ ap (λ o. o >>= λ a. several_read read next n (next s a.0) a.1 >>= cons_at a.0) ((each s p).again x (flat_map spell xs ++ rest) h.1.0)
        ∙ ap (λ o. o >>= cons_at x) ((ih (next s x) (kept s x p h.1.0)).again xs rest (omega arith, h.1.1))

-- ---- bytes and numbers

-- so many bytes
pub bytes_field : (n : ℕ) → IsField (bytes_read n) (λ text. text) (λ text. length text ≡ n)
bytes_field n = record {
  takes = λ bytes text rest fits e.
      let g = guard_ok (ltb (length bytes) n) Short (take n bytes, drop n bytes) (text, rest) e in
      let long : n ≤ length bytes = ltb-false _ _ g.0 in
      let text-is : take n bytes ≡ text = ap (λ (p : List ℕ × List ℕ). p.0) g.1 in
      let rest-is : drop n bytes ≡ rest = ap (λ (p : List ℕ × List ℕ). p.1) g.1 in
      (record { parts = rw (← text-is, ← rest-is) (sym (take-append-drop n bytes)); rest_fits = rw (← rest-is) (IsBytes-drop n bytes fits) }, rw (← text-is) (omega (arith, length-take n bytes)));
  again = λ text rest len.
      let long : ltb (length (text ++ rest)) n ≡ false = le-ltb _ _ (omega (arith, length-append text rest)) in
      rw (long, take_at text rest n len, drop_at text rest n len) refl;
}

pub record IsWide (w : Width) (limit : ℕ) : Type 0 where
  pub len : (n : ℕ) → length (to_be_bytes w n) ≡ byte_len w
  pub back : (bytes : List ℕ) → length bytes ≡ byte_len w → IsBytes bytes → to_be_bytes w (from_be_bytes w bytes) ≡ bytes
  pub again : (n : ℕ) → n < limit → from_be_bytes w (to_be_bytes w n) ≡ n
  pub below : (bytes : List ℕ) → IsBytes bytes → from_be_bytes w bytes < limit

one_byte : (bytes : List ℕ) → length bytes ≡ 1 → IsBytes bytes → to_be_bytes w8 (from_be_bytes w8 bytes) ≡ bytes
one_byte [] len fits = absurd (omega arith)
one_byte (b ∷ []) len fits = let low = fits 0 in ap (λ n. n ∷ []) (omega arith)
one_byte (b ∷ c ∷ bytes) len fits = absurd (omega arith)

pub wide8 : IsWide w8 (2 ^ 8)
wide8 = record {
  len = λ n. refl;
  back = λ bytes len fits. one_byte bytes len fits;
  again = λ n lt. omega arith;
  below = λ bytes fits. omega (arith, fits 0);
}

pub wide16 : IsWide w16 (2 ^ 16)
wide16 = record {
  len = λ n. refl;
  back = λ bytes len fits. be_bytes_2 bytes _ len fits refl;
  again = λ n lt. from_be_bytes-to_be_bytes_2 n lt;
  below = λ bytes fits. omega (arith, fits 0, fits 1);
}

pub wide32 : IsWide w32 (2 ^ 32)
wide32 = record {
  len = λ n. refl;
  back = λ bytes len fits. be_bytes_4 bytes _ len fits refl;
  again = λ n lt. from_be_bytes-to_be_bytes_4 n lt;
  below = λ bytes fits. omega (arith, fits 0, fits 1, fits 2, fits 3);
}

pub wide64 : IsWide w64 (2 ^ 64)
wide64 = record {
  len = λ n. refl;
  back = λ bytes len fits. be_bytes_8 bytes _ len fits refl;
  again = λ n lt. from_be_bytes-to_be_bytes_8 n lt;
  below = λ bytes fits. omega (arith, fits 0, fits 1, fits 2, fits 3, fits 4, fits 5, fits 6, fits 7);
}

pub number_field : (w : Width) (limit : ℕ) → IsWide w limit → IsField (number_read w) (to_be_bytes w) (λ n. n < limit)
number_field w limit wide = record {
  takes = λ bytes n rest fits e.
      let g = guard_ok (ltb (length bytes) (byte_len w)) Short (from_be_bytes w (take (byte_len w) bytes), drop (byte_len w) bytes) (n, rest) e in
      let long : byte_len w ≤ length bytes = ltb-false _ _ g.0 in
      let n-is : from_be_bytes w (take (byte_len w) bytes) ≡ n = ap (λ (p : ℕ × List ℕ). p.0) g.1 in
      let rest-is : drop (byte_len w) bytes ≡ rest = ap (λ (p : ℕ × List ℕ). p.1) g.1 in
      let front : to_be_bytes w n ≡ take (byte_len w) bytes = rw (← n-is) (wide.back (take (byte_len w) bytes) (omega (arith, length-take (byte_len w) bytes)) (IsBytes-take (byte_len w) bytes fits)) in
      (record { parts = rw (front, ← rest-is) (sym (take-append-drop (byte_len w) bytes)); rest_fits = rw (← rest-is) (IsBytes-drop (byte_len w) bytes fits) }, rw (← n-is) (wide.below (take (byte_len w) bytes) (IsBytes-take (byte_len w) bytes fits)));
  again = λ n rest lt.
      let len = wide.len n in
      let long : ltb (length (to_be_bytes w n ++ rest)) (byte_len w) ≡ false = le-ltb _ _ (omega (arith, length-append (to_be_bytes w n) rest)) in
      rw (long, take_at (to_be_bytes w n) rest (byte_len w) len, drop_at (to_be_bytes w n) rest (byte_len w) len, wide.again n lt) refl;
}

is_within : (low n high : ℕ) → (nat_le low n && nat_le n high) ≡ true → (low ≤ n) × (n ≤ high)
is_within low n high h = grind arith

within_is : (low n high : ℕ) → low ≤ n → n ≤ high → (nat_le low n && nat_le n high) ≡ true
within_is low n high a b = grind arith

-- a number that is judged by its range
pub ranged_field : (w : Width) (limit low high : ℕ) (d : WireFault) → IsWide w limit → high < limit → IsField (judged_read (λ n. nat_le low n && nat_le n high) d (number_read w)) (to_be_bytes w) (λ n. (low ≤ n) × (n ≤ high))
ranged_field w limit low high d wide fits = as_field _ _ _ _ (judged_field (number_read w) (to_be_bytes w) (λ n. n < limit) (λ n. nat_le low n && nat_le n high) d (number_field w limit wide))
    (λ n h. is_within low n high h.1)
    (λ n h. (omega arith, within_is low n high h.0 h.1))

pub within_field : (w : Width) (limit low high : ℕ) → IsWide w limit → high < limit → IsField (within_read w low high) (to_be_bytes w) (λ n. (low ≤ n) × (n ≤ high))
unfolding within_read
within_field w limit low high wide fits = ranged_field w limit low high Count wide fits

-- how many there are, and each
pub counted_field : {A S : Type 0} (most : ℕ) (read : S → Field A) (next : S → A → S) (spell : A → List ℕ) (fits : S → A → Type 0) (P : S → Type 0) → ((s : S) (a : A) → P s → fits s a → P (next s a)) → most < 2 ^ 16 → ((s : S) → P s → IsField (read s) spell (fits s))
    → (s : S) → P s → IsField (counted_read most read next s) (counted_bytes spell) (λ xs. (length xs ≤ most) × AllAlong fits next s xs)
counted_field {A} {S} most read next spell fits P kept few each s start = made_field
    (then_read (within_read w16 0 most) (λ count. several_read read next count s)) (λ p. to_be_bytes w16 p.0 ++ flat_map spell p.1)
    (λ p. ((0 ≤ p.0) × (p.0 ≤ most)) × ((length p.1 ≡ p.0) × AllAlong fits next s p.1))
    (λ p. p.1) (counted_bytes spell) (λ xs. (length xs ≤ most) × AllAlong fits next s xs)
    (then_field (within_read w16 0 most) (to_be_bytes w16) (λ n. (0 ≤ n) × (n ≤ most)) (λ count. several_read read next count s) (λ count xs. flat_map spell xs) (λ count xs. (length xs ≡ count) × AllAlong fits next s xs)
    (within_field w16 (2 ^ 16) 0 most wide16 few)
    (λ count h. several_field read next spell fits P kept each count s start))
    (λ p h. (let e = h.1.0 in (omega arith, h.1.1), ap (λ n. to_be_bytes w16 n ++ flat_map spell p.1) (sym h.1.0)))
    (λ xs h. ((length xs, xs), ((omega arith, h.0), (refl, h.1)), refl))
