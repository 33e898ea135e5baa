-- What travels along of facts, one after another
use Rattle.std.proofs.Common.{◌≡◌, ℕ, zero, suc, ◌<◌, ◌≤◌, ◌+◌, ◌-◌, Bool, true, cond, List, [], ◌∷◌, ◌++◌, length, get_or, drop, IsTrue, refl, sym, ap, subst, ◌∙◌, arith}
use Rattle.std.proofs.lemmas.Bool.{and_from}
use Rattle.std.proofs.lemmas.List.Folds.{list_all-append}
use Rattle.std.proofs.lemmas.List.{drop_more, drop_all}
use Rattle.std.specs.List.{filter, AllByRecursion}
use Rattle.roc_base.specs.TxnId.{txn_lt}
use Rattle.roc_depgraph.specs.declared.known.KnownList.{KnownList}
use Rattle.roc_msg.specs.Facts.{front_of_facts, is_behind_facts, AreFacts}
use Rattle.roc_msg.proofs.FactFronts.{front_nothing, front_too_long, front_more}

-- of what a test passes of the rest: its next one is too long, or travels along, or there is none
module _ (p : KnownList → Bool) (all : List KnownList) (i : ℕ) (room left : ℕ) where
  module _ (x : KnownList) (within : i < length all) (is : x ≡ get_or all i x) (passes : p x ≡ true) where
    next_is : filter p (drop i all) ≡ x ∷ filter p (drop (i + 1) all)
    next_is =
        ap (filter p) (drop_more all i x within ∙ ap (λ y. y ∷ drop (i + 1) all) (sym is))
        ∙ ap (λ b. cond b (x ∷ filter p (drop (i + 1) all)) (filter p (drop (i + 1) all))) passes

    pub stops : left < length x.edges → front_of_facts room left (filter p (drop i all)) ≡ []
    stops h = ap (front_of_facts room left) next_is ∙ front_too_long room left x (filter p (drop (i + 1) all)) h

    pub goes_on : 0 < room → length x.edges ≤ left → front_of_facts room left (filter p (drop i all)) ≡ x ∷ front_of_facts (room - 1) (left - length x.edges) (filter p (drop (i + 1) all))
    goes_on h k = ap (front_of_facts room left) next_is ∙ front_more room left x (filter p (drop (i + 1) all)) h k

  pub ends : length all ≤ i → front_of_facts room left (filter p (drop i all)) ≡ []
  ends h = ap (λ xs. front_of_facts room left (filter p xs)) (drop_all i all h) ∙ front_nothing room left

-- all of what is left comes behind what was taken
abbrev pub AreBehind : List KnownList → List KnownList → Type 0
AreBehind taken xs = AllByRecursion (λ x. IsTrue (is_behind_facts taken x.of)) xs

pub behind_none : (xs : List KnownList) → AreBehind [] xs
behind_none [] = tt
behind_none (x ∷ xs) = (refl, behind_none xs)

-- and behind one more
pub behind_more : (taken : List KnownList) (f : KnownList) (xs : List KnownList) → AreBehind taken xs → AllByRecursion (λ x. IsTrue (txn_lt f.of x.of)) xs → AreBehind (taken ++ f ∷ []) xs
behind_more taken f [] h k = tt
behind_more taken f (x ∷ xs) h k =
    let one = list_all-append (λ fact. txn_lt fact.of x.of) taken (f ∷ []) in
    (one ∙ and_from (is_behind_facts taken x.of) (is_behind_facts (f ∷ []) x.of) h.0 (and_from (txn_lt f.of x.of) true k.0 refl), behind_more taken f xs h.1 k.1)

next_below : (all : List KnownList) (i : ℕ) (x : KnownList) → AreFacts all → i < length all → x ≡ get_or all i x → AllByRecursion (λ y. IsTrue (txn_lt x.of y.of)) (drop (suc i) all)
next_below [] i x r h e = absurd (omega arith)
next_below (y ∷ ys) zero x r h e = let below = λ (v : KnownList). AllByRecursion (λ z. IsTrue (txn_lt v.of z.of)) ys in subst below (sym e) r.0
next_below (y ∷ ys) (suc i) x r h e = next_below ys i x r.1 (omega arith) e

-- the next of facts comes before the rest of them
pub next_before : (all : List KnownList) (i : ℕ) (x : KnownList) → AreFacts all → i < length all → x ≡ get_or all i x → AllByRecursion (λ y. IsTrue (txn_lt x.of y.of)) (drop (i + 1) all)
next_before all i x r h e =
    let one_more : suc i ≡ i + 1 = omega arith in
    let below = λ (n : ℕ). AllByRecursion (λ y. IsTrue (txn_lt x.of y.of)) (drop n all) in
    subst below one_more (next_below all i x r h e)

pub behind_rest : (taken all : List KnownList) (i : ℕ) (x : KnownList) → i < length all → AreBehind taken (drop i all) → AreBehind taken (drop (i + 1) all)
behind_rest taken all i x h k = (subst (AreBehind taken) (drop_more all i x h) k).1
