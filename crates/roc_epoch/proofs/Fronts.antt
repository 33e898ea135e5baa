-- Fronts of lists: as what is taken, and what is found in them
use Rattle.std.proofs.Common.{◌≡◌, ℕ, ◌+◌, ◌==◌, Bool, true, false, not, cond, nat_lt, ◌<◌, List, ◌++◌, length, map, take, drop, get_or, Some, None, sym, ap, ◌∙◌, arith, length-append}
use Rattle.std.specs.Prelude.{position}
use Rattle.std.specs.List.{position_or_len}
use Rattle.std.proofs.Math.Seq.{take-append_seam}
use Rattle.std.proofs.lemmas.Bool.{lt-ltb, ne_eqb}
use Rattle.std.proofs.lemmas.List.Folds.{prefix_len-append}
use Rattle.std.proofs.lemmas.List.{take-append-drop, take_all, take-map, length-map, get_or-map, get_or-take}
use Rattle.roc_sequence.proofs.Found.{found_within}
use Rattle.roc_epoch.specs.Growth.{StandsInFront}

pub front_taken : {A : Type 0} (xs ys : List A) → StandsInFront xs ys → take (length xs) ys ≡ xs
front_taken xs ys front = ap (take (length xs)) front.1 ∙ take-append_seam xs front.0

pub taken_front : {A : Type 0} (xs ys : List A) → take (length xs) ys ≡ xs → StandsInFront xs ys
taken_front {A} xs ys same =
    (drop (length xs) ys, sym (take-append-drop (length xs) ys) ∙ ap (λ (zs : List A). zs ++ drop (length xs) ys) same)

-- one whose elements all look as those at the front of the other do
pub front_seen : {A B : Type 0} (f : A → B) (xs ys : List A) (n : ℕ) → n ≡ length xs → map f (take n xs) ≡ map f (take n ys) → StandsInFront (map f xs) (map f ys)
front_seen {A} {B} f xs ys n whole same =
    taken_front (map f xs) (map f ys)
    (ap (λ (k : ℕ). take k (map f ys)) (length-map xs f ∙ sym whole)
    ∙ (take-map f n ys ∙ (sym same ∙ ap (map f) (take_all n xs (omega (arith, whole))))))

-- the elements at a place look alike
pub front_at : {A B : Type 0} (f : A → B) (xs ys : List A) (n : ℕ) (x y : A) → StandsInFront (map f xs) (map f ys) → n < length xs → n < length ys → x ≡ get_or xs n x → y ≡ get_or ys n y → f x ≡ f y
front_at {A} {B} f xs ys n x y front in_front in_whole is_x is_y =
    let count : length (map f xs) ≡ length xs = length-map xs f in
    ap f is_x
    ∙ (sym (get_or-map f xs n x (f x) in_front)
    ∙ (sym (ap (λ (texts : List B). get_or texts n (f x)) (front_taken (map f xs) (map f ys) front))
    ∙ (get_or-take (length (map f xs)) (map f ys) n (f x) (omega (arith, count, in_front))
    ∙ (get_or-map f ys n y (f x) in_whole ∙ ap f (sym is_y)))))

place_found : {A : Type 0} (p : A → Bool) (xs : List A) (i : ℕ) → position p xs ≡ Some i → position_or_len p xs ≡ i
place_found p xs i e = go (nat_lt (position_or_len p xs) (length xs)) e
  where
    go : (b : Bool) → cond b (Some (position_or_len p xs)) None ≡ Some i → position_or_len p xs ≡ i
    go true h = cc
    go false h = cc

-- what passes first in a front passes first in the whole
pub front_position : {A : Type 0} (p : A → Bool) (xs ys : List A) (i : ℕ) → position p xs ≡ Some i → position p (xs ++ ys) ≡ Some i
front_position {A} p xs ys i e =
    let found : position_or_len p xs ≡ i = place_found p xs i e in
    let within : i < length xs = found_within p xs i e in
    let more : length (xs ++ ys) ≡ length xs + length ys = length-append xs ys in
    let apart : (position_or_len p xs == length xs) ≡ false = ne_eqb (position_or_len p xs) (length xs) (λ e. omega (arith, found, within, e)) in
    let kept : position_or_len p (xs ++ ys) ≡ position_or_len p xs =
    prefix_len-append (λ (x : A). not (p x)) xs ys
    ∙ ap (λ (b : Bool). cond b (length xs + position_or_len p ys) (position_or_len p xs)) apart in
    let same : position_or_len p (xs ++ ys) ≡ i = kept ∙ found in
    let there : nat_lt (position_or_len p (xs ++ ys)) (length (xs ++ ys)) ≡ true = lt-ltb (position_or_len p (xs ++ ys)) (length (xs ++ ys)) (omega (arith, same, within, more)) in
    ap (λ (b : Bool). cond b (Some (position_or_len p (xs ++ ys))) None) there ∙ ap Some same
