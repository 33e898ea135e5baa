-- Components one after another
use Rattle.std.proofs.Common.{◌≡◌, ◌<◌, ◌+◌, Bool, true, false, cond, List, [], ◌∷◌, ◌++◌, length, refl, sym, subst, ◌∙◌, ◌⊎◌, inl, inr, arith}
use Rattle.std.specs.Prelude.{filter, flat_map}
use Rattle.roc_sequence.specs.Lists.{Has}
use Rattle.roc_sequence.specs.Places.{place_of, IsListed, IsListedBefore, NoneTwice}
use Rattle.roc_sequence.proofs.Places.{listed_or_not}
use Rattle.roc_sequence.proofs.Appended.{place_of-front, place_of-behind, listed_behind}
use Rattle.roc_sequence.proofs.Members.{has_flat_map, from_has_flat_map}
use Rattle.roc_base.specs.declared.id.TxnId.{TxnId}
use Rattle.roc_base.specs.TxnId.{is_txn}
use Rattle.roc_depgraph.proofs.Listed.{has_listed, listed_has}
use Rattle.roc_component.proofs.OneTaken.{none_behind}

abbrev pub flat : List (List TxnId) → List TxnId
flat cs = flat_map (λ c. c) cs

pub listed_in : (cs : List (List TxnId)) (t : TxnId) → IsListed is_txn (flat cs) t → (c : List TxnId) × Has c cs × Has t c
listed_in cs t h = from_has_flat_map (λ c. c) t cs (listed_has (flat cs) t h)

pub in_listed : (cs : List (List TxnId)) (c : List TxnId) (t : TxnId) → Has c cs → Has t c → IsListed is_txn (flat cs) t
in_listed cs c t h k = has_listed (flat cs) t (has_flat_map (λ c. c) t c cs h k)

-- what is listed stands before what is not
pub before_unlisted : (xs : List TxnId) (a b : TxnId) → IsListed is_txn xs a → ¬ IsListed is_txn xs b → IsListedBefore is_txn xs a b
before_unlisted xs a b h n = elim (listed_or_not is_txn xs b) [ inl k ↦ absurd (n k) | inr k ↦ go (place_of (is_txn b) xs) k h ]
  where
    go : (at : _) → ¬ (at < length xs) → place_of (is_txn a) xs < length xs → place_of (is_txn a) xs < at
    go at n l = omega (arith, n, l)

front_apart : (xs ys : List TxnId) (t : TxnId) → NoneTwice is_txn (xs ++ ys) → Has t xs → ¬ IsListed is_txn ys t
front_apart [] ys t once h k = absurd h
front_apart (x ∷ xs) ys t once (inl e) k = once.0 (listed_behind is_txn xs ys x (subst (IsListed is_txn ys) e k))
front_apart (x ∷ xs) ys t once (inr h) k = front_apart xs ys t once.1 h k

-- a transaction is in one of them
pub one_of_them : (cs : List (List TxnId)) → NoneTwice is_txn (flat cs) → (c e : List TxnId) (t : TxnId) → Has c cs → Has e cs → Has t c → Has t e → c ≡ e
one_of_them [] once c e t h k x y = absurd h
one_of_them (b ∷ cs) once c e t (inl f) (inl g) x y = f ∙ sym g
one_of_them (b ∷ cs) once c e t (inl f) (inr k) x y = absurd (front_apart b (flat cs) t once (subst (Has t) f x) (in_listed cs e t k y))
one_of_them (b ∷ cs) once c e t (inr h) (inl g) x y = absurd (front_apart b (flat cs) t once (subst (Has t) g y) (in_listed cs c t h x))
one_of_them (b ∷ cs) once c e t (inr h) (inr k) x y = one_of_them cs (none_behind b (flat cs) once) c e t h k x y

-- Where some are left out that have neither of two transactions, these stand as before
pub before_all : (p : List TxnId → Bool) (cs : List (List TxnId)) (a b : TxnId) → ((c : List TxnId) → Has c cs → p c ≡ false → (¬ Has a c) × (¬ Has b c))
    → IsListedBefore is_txn (flat (filter p cs)) a b → IsListedBefore is_txn (flat cs) a b
before_all p [] a b none l = l
before_all p (c ∷ cs) a b none l = go (p c) refl l (before_all p cs a b (λ e h. none e (inr h)))
  where
    -- a transaction that is not in the front stands as far behind it as it stood
    away : (t : TxnId) (ys : List TxnId) → ¬ Has t c → place_of (is_txn t) (c ++ ys) ≡ length c + place_of (is_txn t) ys
    away t ys n = place_of-behind (is_txn t) c ys (elim (listed_or_not is_txn c t) [ inl k ↦ absurd (n (listed_has c t k)) | inr k ↦ omega (arith, k) ])

    there : (t : TxnId) (ys : List TxnId) → Has t c → place_of (is_txn t) (c ++ ys) ≡ place_of (is_txn t) c
    there t ys h = place_of-front (is_txn t) c ys (has_listed c t h)

    in_front : (t : TxnId) → Has t c ⊎ (¬ Has t c)
    in_front t = elim (listed_or_not is_txn c t) [ inl k ↦ inl (listed_has c t k) | inr k ↦ inr (λ h. k (has_listed c t h)) ]

    go : (x : Bool) → p c ≡ x → IsListedBefore is_txn (flat (cond x (c ∷ filter p cs) (filter p cs))) a b
        → (IsListedBefore is_txn (flat (filter p cs)) a b → IsListedBefore is_txn (flat cs) a b) → IsListedBefore is_txn (c ++ flat cs) a b
    go false e l ih =
        let n = none c (inl refl) e in
        let k = ih l in
        let x = away a (flat cs) n.0 in
        let y = away b (flat cs) n.1 in
        omega (arith, k, x, y)
    go true e l ih = elim (in_front a) [
      | inl ha ↦ elim (in_front b) [
        | inl hb ↦
            (let x = there a (flat (filter p cs)) ha in
            let y = there b (flat (filter p cs)) hb in
            let z = there a (flat cs) ha in
            let w = there b (flat cs) hb in
            omega (arith, l, x, y, z, w))
        | inr nb ↦
            (let z = there a (flat cs) ha in
            let w = away b (flat cs) nb in
            let k = has_listed c a ha in
            omega (arith, z, w, k))
      ]
      | inr na ↦ elim (in_front b) [
        | inl hb ↦
            (let x = away a (flat (filter p cs)) na in
            let y = there b (flat (filter p cs)) hb in
            let k = has_listed c b hb in
            absurd (omega (arith, l, x, y, k)))
        | inr nb ↦
            (let x = away a (flat (filter p cs)) na in
            let y = away b (flat (filter p cs)) nb in
            let z = away a (flat cs) na in
            let w = away b (flat cs) nb in
            let rest : IsListedBefore is_txn (flat (filter p cs)) a b = omega (arith, l, x, y) in
            let k = ih rest in
            omega (arith, k, z, w))
      ]
    ]
