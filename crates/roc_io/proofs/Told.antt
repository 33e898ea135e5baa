-- What an object tells over several calls.
use Rattle.std.proofs.Common.{◌≡◌, ℕ, zero, suc, ◌+◌, ◌<◌, List, [], ◌∷◌, ◌++◌, length, get_or, take, drop, refl, sym, ◌∙◌, ap, subst, append_assoc, take-append-drop}
use Rattle.std.specs.List.{flat_map}
use Rattle.std.specs.Prelude.{Option, Some, None}
use Rattle.std.proofs.Math.Seq.{take-append-add, drop-cons}
use Rattle.std.proofs.lemmas.Grind.{flat_map-append}
use Rattle.std.proofs.lemmas.List.{append-nil}
use Rattle.roc_io.specs.Observed.{Adds, AddsFront, AddsThenFront}

pub Adds-nil : {X : Type 0} (a : Option (List X)) → Adds a a []
Adds-nil None = tt
Adds-nil (Some x) = sym (append-nil x)

pub Adds-trans : {X : Type 0} (a b c : Option (List X)) (xs ys : List X) → Adds a b xs → Adds b c ys → Adds a c (xs ++ ys)
Adds-trans a b None xs ys p q = tt
Adds-trans a None (Some z) xs ys p q = absurd q
Adds-trans None (Some y) (Some z) xs ys p q = absurd p
Adds-trans (Some x) (Some y) (Some z) xs ys p q = q ∙ ap (λ l. l ++ ys) p ∙ append_assoc x xs ys

-- a front of a list is a front of a longer one
take_longer : {X : Type 0} (n : ℕ) (xs ys : List X) → (k : ℕ) × (take k (xs ++ ys) ≡ take n xs)
take_longer zero xs ys = (0, refl)
take_longer (suc n) [] ys = (0, refl)
take_longer (suc n) (x ∷ xs) ys = let rest = take_longer n xs ys in (suc rest.0, ap (λ l. x ∷ l) rest.1)

pub AddsFront-behind : {X : Type 0} (a b c : Option (List X)) (xs ys : List X) → Adds a b xs → AddsFront b c ys → AddsFront a c (xs ++ ys)
AddsFront-behind a b c xs ys p q = (length xs + q.0, subst (Adds a c) (sym (take-append-add xs ys q.0)) (Adds-trans a b c xs (take q.0 ys) p q.1))

pub AddsThenFront-behind : {X : Type 0} (a b c : Option (List X)) (xs ys : List X) → Adds a b xs → AddsFront b c ys → AddsThenFront a c xs ys
AddsThenFront-behind a b c xs ys p q = (q.0, Adds-trans a b c xs (take q.0 ys) p q.1)

AddsFront-longer : {X : Type 0} (a b : Option (List X)) (xs ys : List X) → AddsFront a b xs → AddsFront a b (xs ++ ys)
AddsFront-longer a b xs ys p = let front = take_longer p.0 xs ys in (front.0, subst (Adds a b) (sym front.1) p.1)

-- the pieces before the one at i, that piece, and the pieces behind it
flat_map-parts : {X A : Type 0} (f : X → List A) (pieces : List X) (i : ℕ) (d : X) → i < length pieces
    → flat_map f (take i pieces) ++ (f (get_or pieces i d) ++ flat_map f (drop (suc i) pieces)) ≡ flat_map f pieces
flat_map-parts f pieces i d below =
    ap (λ l. flat_map f (take i pieces) ++ flat_map f l) (sym (drop-cons pieces i d below))
    ∙ sym (flat_map-append f (take i pieces) (drop i pieces))
    ∙ ap (flat_map f) (take-append-drop i pieces)

pub AddsFront-pieces : {X A : Type 0} (f : X → List A) (a b c : Option (List A)) (pieces : List X) (i : ℕ) (d : X) → i < length pieces
    → Adds a b (flat_map f (take i pieces)) → AddsFront b c (f (get_or pieces i d)) → AddsFront a c (flat_map f pieces)
AddsFront-pieces f a b c pieces i d below p q =
    subst (AddsFront a c) (flat_map-parts f pieces i d below)
    (AddsFront-behind a b c _ _ p (AddsFront-longer b c _ (flat_map f (drop (suc i) pieces)) q))
