-- One more in its place, in a list in order
use Rattle.std.proofs.Common.{◌≡◌, ℕ, ◌≤◌, ◌||◌, ◌++◌, Bool, true, false, cond, List, [], ◌∷◌, length, filter, insert, refl, sym, ap, ◌∙◌, arith, length-append}
use Rattle.std.proofs.lemmas.Bool.{false≢true}
use Rattle.std.specs.List.{AllByRecursion}
use Rattle.roc_sequence.proofs.Holds.{all_append}
use Rattle.roc_msg.specs.InPlace.{in_place}
use Rattle.roc_step.specs.Waits.{AreInOrder}
use Rattle.roc_await.specs.Inner.Apart.{is_apart}

-- what comes before another does not come behind it, and comes before all that this one comes before
pub record IsOrder {A : Type 0} (before : A → A → Bool) : Type 0 where
  pub asym : (a b : A) → before a b ≡ true → before b a ≡ false
  pub trans : (a b c : A) → before a b ≡ true → before b c ≡ true → before a c ≡ true

insert_behind : {A : Type 0} (xs ys : List A) (a : A) → insert (xs ++ ys) (length xs) a ≡ xs ++ a ∷ ys
insert_behind [] [] a = refl
insert_behind [] (y ∷ ys) a = refl
insert_behind (x ∷ xs) ys a = ap (λ l. x ∷ l) (insert_behind xs ys a)

module _ {A : Type 0} (before : A → A → Bool) where
  -- some of them
  all_some : (P : A → Type 0) (p : A → Bool) (xs : List A) → AllByRecursion P xs → AllByRecursion P (filter p xs)
  all_some P p [] h = tt
  all_some P p (x ∷ xs) h = elim (p x) as (λ b. AllByRecursion P (cond b (x ∷ filter p xs) (filter p xs))) [ true ↦ (h.0, all_some P p xs h.1) | false ↦ all_some P p xs h.1 ]

  pub order_some : (p : A → Bool) (xs : List A) → AreInOrder before xs → AreInOrder before (filter p xs)
  order_some p [] o = tt
  order_some p (x ∷ xs) o =
      elim (p x) as (λ b. AreInOrder before (cond b (x ∷ filter p xs) (filter p xs))) [ true ↦ (all_some (λ y. before x y ≡ true) p xs o.0, order_some p xs o.1) | false ↦ order_some p xs o.1 ]

  all_passed : (p : A → Bool) (xs : List A) → AllByRecursion (λ x. p x ≡ true) (filter p xs)
  all_passed p [] = tt
  all_passed p (x ∷ xs) = go (p x) refl (all_passed p xs)
    where
      go : (b : Bool) → p x ≡ b → AllByRecursion (λ x. p x ≡ true) (filter p xs) → AllByRecursion (λ x. p x ≡ true) (cond b (x ∷ filter p xs) (filter p xs))
      go true e ih = (e, ih)
      go false e ih = ih

  module _ (order : IsOrder before) (a : A) where
    from_behind : (x : A) (ys : List A) → before x a ≡ true → AllByRecursion (λ y. before a y ≡ true) ys → AllByRecursion (λ y. before x y ≡ true) ys
    from_behind x [] h k = tt
    from_behind x (y ∷ ys) h k = (order.trans x a y h k.0, from_behind x ys h k.1)

    joined : (xs ys : List A) → AreInOrder before xs → AllByRecursion (λ x. before x a ≡ true) xs → AllByRecursion (λ y. before a y ≡ true) ys → AreInOrder before ys → AreInOrder before (xs ++ a ∷ ys)
    joined [] ys o h k p = (k, p)
    joined (x ∷ xs) ys o h k p = (all_append (λ y. before x y ≡ true) xs (a ∷ ys) o.0 (h.0, from_behind x ys h.0 k), joined xs ys o.1 h.1 k p)

    pub order_in_place : (xs : List A) → AreInOrder before xs → AreInOrder before (in_place before a xs)
    order_in_place xs o =
        joined (filter (λ x. before x a) xs) (filter (λ x. before a x) xs) (order_some (λ x. before x a) xs o) (all_passed (λ x. before x a) xs) (all_passed (λ x. before a x) xs) (order_some (λ x. before a x) xs o)

    -- where one does not come before, none behind it does
    none_later : (x : A) (xs : List A) → before x a ≡ false → AllByRecursion (λ y. before x y ≡ true) xs → AllByRecursion (λ y. before y a ≡ false) xs
    none_later x [] h o = tt
    none_later x (y ∷ ys) h o = (go (before y a) refl, none_later x ys h o.1)
      where
        go : (b : Bool) → before y a ≡ b → before y a ≡ false
        go true e = absurd (false≢true (sym h ∙ order.trans x y a o.0 e))
        go false e = e

    none_before : (xs : List A) → AllByRecursion (λ y. before y a ≡ false) xs → filter (λ x. before x a) xs ≡ []
    none_before [] h = refl
    none_before (x ∷ xs) h = ap (λ b. cond b (x ∷ filter (λ y. before y a) xs) (filter (λ y. before y a) xs)) h.0 ∙ none_before xs h.1

    all_behind : (xs : List A) → AllByRecursion (λ y. before y a ≡ false) xs → filter (is_apart before a) xs ≡ filter (λ x. before a x) xs
    all_behind [] h = refl
    all_behind (x ∷ xs) h =
        ap (λ b. cond (b || before a x) (x ∷ filter (is_apart before a) xs) (filter (is_apart before a) xs)) h.0
        ∙ ap (λ l. cond (before a x) (x ∷ l) l) (all_behind xs h.1)

    apart_parts : (xs : List A) → AreInOrder before xs → filter (is_apart before a) xs ≡ filter (λ x. before x a) xs ++ filter (λ x. before a x) xs
    apart_parts [] o = refl
    apart_parts (x ∷ xs) o = go (before x a) refl (apart_parts xs o.1)
      where
        go : (b : Bool) → before x a ≡ b → filter (is_apart before a) xs ≡ filter (λ x. before x a) xs ++ filter (λ x. before a x) xs
            → filter (is_apart before a) (x ∷ xs) ≡ filter (λ x. before x a) (x ∷ xs) ++ filter (λ x. before a x) (x ∷ xs)
        go true e ih =
            let fore = filter (λ y. before y a) xs in
            let back = filter (λ y. before a y) xs in
            let apart = filter (is_apart before a) xs in
            ap (λ b. cond (b || before a x) (x ∷ apart) apart) e ∙ ap (λ l. x ∷ l) ih
            ∙ sym (ap (λ b. cond b (x ∷ fore) fore ++ cond (before a x) (x ∷ back) back) e ∙ ap (λ b. (x ∷ fore) ++ cond b (x ∷ back) back) (order.asym x a e))
        go false e ih =
            let none : AllByRecursion (λ y. before y a ≡ false) (x ∷ xs) = (e, none_later x xs e o.0) in
            all_behind (x ∷ xs) none ∙ ap (λ l. l ++ filter (λ y. before a y) (x ∷ xs)) (sym (none_before (x ∷ xs) none))

    -- so one more goes behind those that come before it
    pub put_in_place : (xs apart new : List A) (at : ℕ) → AreInOrder before xs → at ≡ length (filter (λ x. before x a) xs) → apart ≡ filter (is_apart before a) xs → new ≡ insert apart at a → new ≡ in_place before a xs
    put_in_place xs apart new at o count is made =
        made ∙ (λ i. insert ((is ∙ apart_parts xs o) i) (count i) a) ∙ insert_behind (filter (λ x. before x a) xs) (filter (λ x. before a x) xs) a

    pub place_within : (xs apart : List A) (at : ℕ) → AreInOrder before xs → at ≡ length (filter (λ x. before x a) xs) → apart ≡ filter (is_apart before a) xs → at ≤ length apart
    place_within xs apart at o count is =
        let long = length-append (filter (λ x. before x a) xs) (filter (λ x. before a x) xs) in
        let same = ap length (is ∙ apart_parts xs o) in
        omega (arith, count, long, same)
