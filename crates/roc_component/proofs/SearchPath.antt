-- A path of parts, by its last one
use Rattle.std.proofs.Common.{◌≡◌, ℕ, zero, suc, ◌+◌, ◌<◌, List, [], ◌∷◌, ◌++◌, length, refl, sym, ◌∙◌, ap, subst, ◌⊎◌, inl, inr, arith, get_or, length-append}
use Rattle.roc_sequence.specs.Lists.{Has}
use Rattle.roc_sequence.proofs.Members.{has_left, has_right, has_append, has_more}
use Rattle.roc_base.specs.declared.id.TxnId.{TxnId}
use Rattle.roc_component.specs.declared.search.Part.{Part}
use Rattle.roc_component.specs.Components.{ShareNoMember}
use Rattle.roc_component.specs.Inner.Search.{IsRisingPath, weight, IsUnited}

pub path_more : (xs : List Part) (p : Part) → IsRisingPath xs → ((q : Part) → Has q xs → q.start < p.start) → IsRisingPath (xs ++ p ∷ [])
path_more [] p r h = (λ q k. absurd k, tt)
path_more (x ∷ xs) p r h = (λ q k. go q (has_more q p xs k), path_more xs p r.1 (λ q k. h q (inr k)))
  where
    go : (q : Part) → Has q xs ⊎ (q ≡ p) → x.start < q.start
    go q (inl k) = r.0 q k
    go q (inr e) = subst (λ (v : Part). x.start < v.start) (sym e) (h x (inl refl))

pub path_front : (xs : List Part) (p : Part) → IsRisingPath (xs ++ p ∷ []) → IsRisingPath xs
path_front [] p r = tt
path_front (x ∷ xs) p r = (λ q k. r.0 q (has_left q xs (p ∷ []) k), path_front xs p r.1)

pub path_last : (xs : List Part) (p : Part) → IsRisingPath (xs ++ p ∷ []) → (q : Part) → Has q xs → q.start < p.start
path_last [] p r q h = absurd h
path_last (x ∷ xs) p r q (inl e) = subst (λ (v : Part). v.start < p.start) (sym e) (r.0 p (has_right p xs (p ∷ []) (inl refl)))
path_last (x ∷ xs) p r q (inr h) = path_last xs p r.1 q h

pub weight_more : (xs : List Part) (p : Part) → weight (xs ++ p ∷ []) ≡ weight xs + suc (length p.todo.items)
weight_more [] p = omega arith
weight_more (x ∷ xs) p = let e = weight_more xs p in omega arith

pub apart_more : (cs : List (List TxnId)) (c : List TxnId) → ShareNoMember cs → ((d : List TxnId) → Has d cs → (u : TxnId) → Has u d → ¬ Has u c) → ShareNoMember (cs ++ c ∷ [])
apart_more [] c a h = (λ d k. absurd k, tt)
apart_more (x ∷ xs) c a h = (λ d k. go d (has_more d c xs k), apart_more xs c a.1 (λ d k. h d (inr k)))
  where
    go : (d : List TxnId) → Has d xs ⊎ (d ≡ c) → (u : TxnId) → Has u x → ¬ Has u d
    go d (inl k) = a.0 d k
    go d (inr e) = λ u i j. h x (inl refl) u i (subst (Has u) e j)

-- ---- lists of both

pub united_front : {A : Type 0} (xs ys all : List A) → all ≡ xs ++ ys → IsUnited xs ys all
united_front xs ys all e = record {
  left = λ a h. subst (Has a) (sym e) (has_left a xs ys h);
  right = λ a h. subst (Has a) (sym e) (has_right a xs ys h);
  only = λ a h. has_append a xs ys (subst (Has a) e h);
  count = ap length e ∙ length-append xs ys;
}

pub united_behind : {A : Type 0} (xs ys all : List A) → all ≡ ys ++ xs → IsUnited xs ys all
united_behind xs ys all e =
    let u = united_front ys xs all e in
    let n = u.count in
    record { left = u.right; right = u.left; only = λ a h. elim (u.only a h) [ inl k ↦ inr k | inr k ↦ inl k ]; count = omega arith }

pub nothing_in : {A : Type 0} (xs : List A) (a : A) → length xs ≡ 0 → ¬ Has a xs
nothing_in [] a e h = h
nothing_in (x ∷ xs) a e h = absurd (omega arith)

pub some_length : {A : Type 0} (xs : List A) (a : A) → Has a xs → 0 < length xs
some_length [] a h = absurd h
some_length (x ∷ xs) a h = omega arith

-- what stands at a place is in the list
pub has_there : {A : Type 0} (xs : List A) (i : ℕ) (x d : A) → i < length xs → x ≡ get_or xs i d → Has x xs
has_there [] i x d h e = absurd (omega arith)
has_there (y ∷ ys) zero x d h e = inl e
has_there (y ∷ ys) (suc i) x d h e = inr (has_there ys i x d (omega arith) e)
