-- One more pair of two lists, and one more element that a test passes
use Rattle.std.proofs.Common.{◌≡◌, ℕ, ◌+◌, ◌<◌, List, [], ◌∷◌, ◌++◌, length, get_or, take, zip, ap, ◌∙◌, sym, append_assoc, append-nil, min, arith, Bool, true, false, cond}
use Rattle.std.proofs.lemmas.List.{take_more, take_all}
use Rattle.std.proofs.lemmas.List.Elements.{filter_more}
use Rattle.std.specs.List.{filter}
use Rattle.std.proofs.lemmas.Slice.Zip.{length-zip, get_or-zip}

-- what was gathered of the pairs so far, and of one more
pub zipped_more : {X Y : Type 0} (xs : List X) (ys : List Y) (i : ℕ) (x : X) (y : Y) (before : List (X × Y)) → i < length xs → i < length ys → x ≡ get_or xs i x → y ≡ get_or ys i y → (before ++ take i (zip xs ys)) ++ (x, y) ∷ [] ≡ before ++ take (i + 1) (zip xs ys)
zipped_more {X} {Y} xs ys i x y before h k e f =
    let within : i < length (zip xs ys) = omega (arith, length-zip xs ys) in
    let pair : (x, y) ≡ get_or (zip xs ys) i (x, y) = ap (λ v. (v, y)) e ∙ (ap (λ w. (get_or xs i x, w)) f ∙ sym (get_or-zip xs ys i (x, y) h k)) in
    append_assoc before (take i (zip xs ys)) ((x, y) ∷ [])
    ∙ ap (λ zs. before ++ zs) (ap (λ v. take i (zip xs ys) ++ v ∷ []) pair ∙ sym (take_more (zip xs ys) i (x, y) within))

pub zipped_all : {X Y : Type 0} (xs : List X) (ys : List Y) (i : ℕ) → i ≡ min (length xs) (length ys) → take i (zip xs ys) ≡ zip xs ys
zipped_all xs ys i e = take_all i (zip xs ys) (omega (arith, length-zip xs ys))

-- a test passes one more element, or does not
module _ {X : Type 0} (p : X → Bool) (xs : List X) (i : ℕ) (d : X) (ys zs : List X) (within : i < length xs) (so_far : ys ≡ filter p (take i xs)) where
  pub filter_kept : p (get_or xs i d) ≡ true → zs ≡ ys ++ get_or xs i d ∷ [] → zs ≡ filter p (take (i + 1) xs)
  filter_kept e h =
      let x = get_or xs i d in
      h ∙ ap (λ us. us ++ x ∷ []) so_far ∙ ap (λ b. filter p (take i xs) ++ cond b (x ∷ []) []) (sym e) ∙ sym (filter_more p xs i d within)

  pub filter_left : p (get_or xs i d) ≡ false → zs ≡ ys → zs ≡ filter p (take (i + 1) xs)
  filter_left e h =
      let x = get_or xs i d in
      h ∙ so_far ∙ sym (append-nil (filter p (take i xs))) ∙ ap (λ b. filter p (take i xs) ++ cond b (x ∷ []) []) (sym e) ∙ sym (filter_more p xs i d within)
