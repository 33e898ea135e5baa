-- Components by turn, wherever they stand
use Rattle.std.proofs.Common.{◌≡◌, ◌≢◌, ◌<◌, ◌≤◌, ℕ, Bool, true, false, cond, not, List, [], ◌∷◌, ◌++◌, map, filter, refl, sym, ap, subst, ◌∙◌, inl, inr, arith}
use Rattle.std.proofs.lemmas.Bool.{cases_lt}
use Rattle.std.proofs.lemmas.Bool.Decides.{nat_tests}
use Rattle.std.specs.Prelude.{nat_lt, ◌⊎◌}
use Rattle.std.specs.List.{AllByRecursion}
use Rattle.roc_sequence.specs.Lists.{Has}
use Rattle.roc_server_taken.specs.declared.components.Component.{Component}
use Rattle.roc_step.specs.Forgets.{is_over}
use Rattle.roc_server_taken.specs.Inner.Over.{by_turn, is_not_over, put_turned, turned_component, HaveOwnTurns, TurnedComponent}

lt_true : (a b : ℕ) → a < b → nat_lt a b ≡ true
lt_true a b h = grind (arith, nat_tests)

lt_false : (a b : ℕ) → b ≤ a → nat_lt a b ≡ false
lt_false a b h = grind (arith, nat_tests)

-- ---- where one more is put

put_first : (x y : TurnedComponent) (ys : List TurnedComponent) → x.turn < y.turn → put_turned x (y ∷ ys) ≡ x ∷ y ∷ ys
put_first x y ys h = ap (λ b. cond b (x ∷ y ∷ ys) (y ∷ put_turned x ys)) (lt_true x.turn y.turn h)

put_later : (x y : TurnedComponent) (ys : List TurnedComponent) → y.turn ≤ x.turn → put_turned x (y ∷ ys) ≡ y ∷ put_turned x ys
put_later x y ys h = ap (λ b. cond b (x ∷ y ∷ ys) (y ∷ put_turned x ys)) (lt_false x.turn y.turn h)

-- the first two, in either order
put_two : (x y : TurnedComponent) (zs : List TurnedComponent) → x.turn < y.turn → put_turned y zs ≡ y ∷ zs → put_turned x (y ∷ zs) ≡ put_turned y (x ∷ zs)
put_two x y zs h e = put_first x y zs h ∙ (ap (λ l. x ∷ l) (sym e) ∙ sym (put_later y x zs (omega arith)))

put_swap : (x y : TurnedComponent) (zs : List TurnedComponent) → x.turn ≢ y.turn → put_turned x (put_turned y zs) ≡ put_turned y (put_turned x zs)
put_swap x y [] apart =
    elim (cases_lt x.turn y.turn) [
      | inl h ↦ put_two x y [] h refl
      | inr h ↦ sym (put_two y x [] (omega (arith, h, apart)) refl)
    ]
put_swap x y (z ∷ zs) apart =
    elim (cases_lt x.turn z.turn) [
      | inl a ↦
          elim (cases_lt y.turn z.turn) [
            | inl b ↦
                elim (cases_lt x.turn y.turn) [
                  | inl h ↦ ap (put_turned x) (put_first y z zs b) ∙ put_two x y (z ∷ zs) h (put_first y z zs b) ∙ ap (put_turned y) (sym (put_first x z zs a))
                  | inr h ↦ sym (ap (put_turned y) (put_first x z zs a) ∙ put_two y x (z ∷ zs) (omega (arith, h, apart)) (put_first x z zs a) ∙ ap (put_turned x) (sym (put_first y z zs b)))
                ]
            | inr b ↦
                ap (put_turned x) (put_later y z zs b) ∙ put_first x z (put_turned y zs) a
                ∙ sym (ap (put_turned y) (put_first x z zs a) ∙ put_later y x (z ∷ zs) (omega (arith, a, b)) ∙ ap (λ l. x ∷ l) (put_later y z zs b))
          ]
      | inr a ↦
          elim (cases_lt y.turn z.turn) [
            | inl b ↦
                ap (put_turned x) (put_first y z zs b) ∙ put_later x y (z ∷ zs) (omega (arith, a, b)) ∙ ap (λ l. y ∷ l) (put_later x z zs a)
                ∙ sym (ap (put_turned y) (put_later x z zs a) ∙ put_first y z (put_turned x zs) b)
            | inr b ↦
                ap (put_turned x) (put_later y z zs b) ∙ put_later x z (put_turned y zs) a ∙ ap (λ l. z ∷ l) (put_swap x y zs apart)
                ∙ sym (ap (put_turned y) (put_later x z zs a) ∙ put_later y z (put_turned x zs) b)
          ]
    ]

pub put_last : (x : TurnedComponent) (ys : List TurnedComponent) → AllByRecursion (λ y. y.turn < x.turn) ys → put_turned x ys ≡ ys ++ x ∷ []
put_last x [] a = refl
put_last x (y ∷ ys) a = put_later x y ys (omega (arith, a.0)) ∙ ap (λ l. y ∷ l) (put_last x ys a.1)

-- ---- one component more, anywhere

pub put_between : (c : Component) (xs ys : List Component) → AllByRecursion (λ (d : Component). d.turn ≢ c.turn) (xs ++ ys) → by_turn (xs ++ c ∷ ys)
    ≡ put_turned (turned_component c) (by_turn (xs ++ ys))
put_between c [] ys h = refl
put_between c (a ∷ xs) ys h = ap (put_turned (turned_component a)) (put_between c xs ys h.1) ∙ put_swap (turned_component a) (turned_component c) (by_turn (xs ++ ys)) h.0

module _ {A : Type 0} (P : A → Type 0) where
  pub all_between : (x : A) (xs ys : List A) → P x → AllByRecursion P (xs ++ ys) → AllByRecursion P (xs ++ x ∷ ys)
  all_between x [] ys p h = (p, h)
  all_between x (a ∷ xs) ys p h = (h.0, all_between x xs ys p h.1)

  pub from_all_between : (x : A) (xs ys : List A) → AllByRecursion P (xs ++ x ∷ ys) → P x × AllByRecursion P (xs ++ ys)
  from_all_between x [] ys h = h
  from_all_between x (a ∷ xs) ys h = let k = from_all_between x xs ys h.1 in (k.0, (h.0, k.1))

pub turns_between : (c : Component) (xs ys : List Component) → AllByRecursion (λ (d : Component). d.turn ≢ c.turn) (xs ++ ys) → HaveOwnTurns (xs ++ ys) → HaveOwnTurns (xs ++ c ∷ ys)
turns_between c [] ys h k = (h, k)
turns_between c (a ∷ xs) ys h k =
    (all_between (λ (d : Component). d.turn ≢ a.turn) c xs ys (λ e. h.0 (sym e)) k.0, turns_between c xs ys h.1 k.1)

pub from_turns_between : (c : Component) (xs ys : List Component) → HaveOwnTurns (xs ++ c ∷ ys) → AllByRecursion (λ (d : Component). d.turn ≢ c.turn) (xs ++ ys) × HaveOwnTurns (xs ++ ys)
from_turns_between c [] ys h = h
from_turns_between c (a ∷ xs) ys h =
    let k = from_turns_between c xs ys h.1 in
    let m = from_all_between (λ (d : Component). d.turn ≢ a.turn) c xs ys h.0 in
    (((λ e. m.0 (sym e)), k.0), (m.1, k.1))

-- ---- what is so of all

module _ (P : TurnedComponent → Type 0) where
  put_all : (x : TurnedComponent) (ys : List TurnedComponent) → P x → AllByRecursion P ys → AllByRecursion P (put_turned x ys)
  put_all x [] p a = (p, tt)
  put_all x (y ∷ ys) p a = go (nat_lt x.turn y.turn) (put_all x ys p a.1)
    where
      go : (b : Bool) → AllByRecursion P (put_turned x ys) → AllByRecursion P (cond b (x ∷ y ∷ ys) (y ∷ put_turned x ys))
      go true h = (p, a)
      go false h = (a.0, h)

  pub turned_all : (cs : List Component) → AllByRecursion (λ (c : Component). P (turned_component c)) cs → AllByRecursion P (by_turn cs)
  turned_all [] a = tt
  turned_all (c ∷ cs) a = put_all (turned_component c) (by_turn cs) a.0 (turned_all cs a.1)

module _ (p : TurnedComponent → Bool) where
  pub put_lost : (x : TurnedComponent) (ys : List TurnedComponent) → p x ≡ false → filter p (put_turned x ys) ≡ filter p ys
  put_lost x [] e = ap (λ b. cond b (x ∷ []) []) e
  put_lost x (y ∷ ys) e = go (nat_lt x.turn y.turn) (put_lost x ys e)
    where
      go : (b : Bool) → filter p (put_turned x ys) ≡ filter p ys → filter p (cond b (x ∷ y ∷ ys) (y ∷ put_turned x ys)) ≡ filter p (y ∷ ys)
      go true h = ap (λ b. cond b (x ∷ filter p (y ∷ ys)) (filter p (y ∷ ys))) e
      go false h = ap (λ l. cond (p y) (y ∷ l) l) h

  pub all_pass : (ys : List TurnedComponent) → AllByRecursion (λ y. p y ≡ true) ys → filter p ys ≡ ys
  all_pass [] a = refl
  all_pass (y ∷ ys) a = ap (λ b. cond b (y ∷ filter p ys) (filter p ys)) a.0 ∙ ap (λ l. y ∷ l) (all_pass ys a.1)

-- those that are not over, by their members
pub members_left : (below : List ℕ) (ys : List TurnedComponent) → map (λ (y : TurnedComponent). y.members) (filter (is_not_over below) ys)
    ≡ filter (λ m. not (is_over below m)) (map (λ (y : TurnedComponent). y.members) ys)
members_left below [] = refl
members_left below (y ∷ ys) = go (is_not_over below y) (members_left below ys)
  where
    go : (b : Bool) → map (λ (y : TurnedComponent). y.members) (filter (is_not_over below) ys) ≡ filter (λ m. not (is_over below m)) (map (λ (y : TurnedComponent). y.members) ys)
        → map (λ (y : TurnedComponent). y.members) (cond b (y ∷ filter (is_not_over below) ys) (filter (is_not_over below) ys))
        ≡ cond b (y.members ∷ filter (λ m. not (is_over below m)) (map (λ (y : TurnedComponent). y.members) ys)) (filter (λ m. not (is_over below m)) (map (λ (y : TurnedComponent). y.members) ys))
    go true e = ap (λ l. y.members ∷ l) e
    go false e = e

-- ---- membership

has_put_here : (x : TurnedComponent) (ys : List TurnedComponent) → Has x (put_turned x ys)
has_put_here x [] = inl refl
has_put_here x (y ∷ ys) = go (nat_lt x.turn y.turn) (has_put_here x ys)
  where
    go : (b : Bool) → Has x (put_turned x ys) → Has x (cond b (x ∷ y ∷ ys) (y ∷ put_turned x ys))
    go true h = inl refl
    go false h = inr h

has_put : (z x : TurnedComponent) (ys : List TurnedComponent) → Has z ys → Has z (put_turned x ys)
has_put z x [] h = elim h [ ]
has_put z x (y ∷ ys) (inl e) = go (nat_lt x.turn y.turn)
  where
    go : (b : Bool) → Has z (cond b (x ∷ y ∷ ys) (y ∷ put_turned x ys))
    go true = inr (inl e)
    go false = inl e
has_put z x (y ∷ ys) (inr k) = go (nat_lt x.turn y.turn) (has_put z x ys k)
  where
    go : (b : Bool) → Has z (put_turned x ys) → Has z (cond b (x ∷ y ∷ ys) (y ∷ put_turned x ys))
    go true h = inr (inr k)
    go false h = inr h

pub has_turned : (c : Component) (cs : List Component) → Has c cs → Has (turned_component c) (by_turn cs)
has_turned c [] h = elim h [ ]
has_turned c (d ∷ ds) (inl e) = subst_has c d (sym e) (has_put_here (turned_component d) (by_turn ds))
  where
    subst_has : (a b : Component) → b ≡ a → Has (turned_component b) (by_turn (d ∷ ds)) → Has (turned_component a) (by_turn (d ∷ ds))
    subst_has a b e h = subst (λ (x : Component). Has (turned_component x) (by_turn (d ∷ ds))) e h
has_turned c (d ∷ ds) (inr k) = has_put (turned_component c) (turned_component d) (by_turn ds) (has_turned c ds k)

from_has_put : (z x : TurnedComponent) (ys : List TurnedComponent) → Has z (put_turned x ys) → (z ≡ x) ⊎ Has z ys
from_has_put z x [] (inl e) = inl e
from_has_put z x [] (inr h) = elim h [ ]
from_has_put z x (y ∷ ys) h = go (nat_lt x.turn y.turn) (from_has_put z x ys) h
  where
    go : (b : Bool) → (Has z (put_turned x ys) → (z ≡ x) ⊎ Has z ys) → Has z (cond b (x ∷ y ∷ ys) (y ∷ put_turned x ys)) → (z ≡ x) ⊎ Has z (y ∷ ys)
    go true ih h = h
    go false ih (inl e) = inr (inl e)
    go false ih (inr k) = elim (ih k) [ inl e ↦ inl e | inr m ↦ inr (inr m) ]

pub from_has_turned : (x : TurnedComponent) (cs : List Component) → Has x (by_turn cs) → (c : Component) × Has c cs × (x ≡ turned_component c)
from_has_turned x [] h = elim h [ ]
from_has_turned x (c ∷ cs) h =
    elim (from_has_put x (turned_component c) (by_turn cs) h) [
      | inl e ↦ (c, inl refl, e)
      | inr k ↦ let d = from_has_turned x cs k in (d.0, inr d.1, d.2)
    ]
