-- What travels along of known lists, one after another
use Rattle.std.proofs.Common.{◌≡◌, ℕ, zero, suc, ◌<◌, ◌≤◌, ◌+◌, ◌-◌, true, nat_le, cond, List, [], ◌∷◌, ◌++◌, length, map, get_or, take, drop, IsTrue, refl, sym, ap, subst, ◌∙◌, arith}
use Rattle.std.proofs.lemmas.Bool.{and_from}
use Rattle.std.proofs.lemmas.List.Folds.{list_all-append}
use Rattle.std.proofs.lemmas.List.{drop_more}
use Rattle.std.specs.List.{AllByRecursion}
use Rattle.std.specs.List.Sorted.{IsStrictlySortedBy}
use Rattle.std.specs.Ordering.{is_lt}
use Rattle.std.specs.declared.cmp.Ordering.TheVariants.{Less}
use Rattle.roc_base.specs.declared.id.TxnId.{TxnId}
use Rattle.roc_base.specs.TxnId.{txn_lt, txn_cmp}
use Rattle.roc_base.proofs.Ids.{is_lt-txn_cmp}
use Rattle.roc_depgraph.specs.declared.known.KnownList.{KnownList}
use Rattle.roc_msg.specs.Facts.{front_of_facts, is_behind_facts}
use Rattle.roc_msg.proofs.FactFronts.{front_too_long, front_more}

-- of what is made of the ids that are left: the list of the next is too long, or travels along
module _ (f : TxnId → KnownList) (all : List TxnId) (i : ℕ) (room left : ℕ) (x none : TxnId) (within : i < length all) (is : x ≡ get_or all i none) where
  next_is : map f (drop i all) ≡ f x ∷ map f (drop (i + 1) all)
  next_is = ap (map f) (drop_more all i none within ∙ ap (λ y. y ∷ drop (i + 1) all) (sym is))

  pub stops : left < length (f x).edges → front_of_facts room left (map f (drop i all)) ≡ []
  stops h = ap (front_of_facts room left) next_is ∙ front_too_long room left (f x) (map f (drop (i + 1) all)) h

  pub goes_on : 0 < room → length (f x).edges ≤ left → front_of_facts room left (map f (drop i all)) ≡ f x ∷ front_of_facts (room - 1) (left - length (f x).edges) (map f (drop (i + 1) all))
  goes_on h k = ap (front_of_facts room left) next_is ∙ front_more room left (f x) (map f (drop (i + 1) all)) h k

-- all of what is left comes behind what was taken
abbrev pub AreBehind : List KnownList → List TxnId → Type 0
AreBehind taken xs = AllByRecursion (λ x. IsTrue (is_behind_facts taken x)) xs

pub behind_none : (xs : List TxnId) → AreBehind [] xs
behind_none [] = tt
behind_none (x ∷ xs) = (refl, behind_none xs)

-- and behind one more
pub behind_more : (taken : List KnownList) (f : KnownList) (xs : List TxnId) → AreBehind taken xs → AllByRecursion (λ x. IsTrue (txn_lt f.of x)) xs → AreBehind (taken ++ f ∷ []) xs
behind_more taken f [] h k = tt
behind_more taken f (x ∷ xs) h k =
    let one = list_all-append (λ fact. txn_lt fact.of x) taken (f ∷ []) in
    (one ∙ and_from (is_behind_facts taken x) (is_behind_facts (f ∷ []) x) h.0 (and_from (txn_lt f.of x) true k.0 refl), behind_more taken f xs h.1 k.1)

all_below : (x : TxnId) (ys : List TxnId) → AllByRecursion (λ y. txn_cmp x y ≡ Less) ys → AllByRecursion (λ y. IsTrue (txn_lt x y)) ys
all_below x [] h = tt
all_below x (y ∷ ys) h = (sym (is_lt-txn_cmp x y) ∙ ap is_lt h.0, all_below x ys h.1)

next_below : (all : List TxnId) (i : ℕ) (x none : TxnId) → IsStrictlySortedBy txn_cmp all → i < length all → x ≡ get_or all i none → AllByRecursion (λ y. IsTrue (txn_lt x y)) (drop (suc i) all)
unfolding IsStrictlySortedBy
next_below [] i x none r h e = absurd (omega arith)
next_below (y ∷ ys) zero x none r h e = let below = λ (v : TxnId). AllByRecursion (λ z. IsTrue (txn_lt v z)) ys in subst below (sym e) (all_below y ys r.0)
next_below (y ∷ ys) (suc i) x none r h e = next_below ys i x none r.1 (omega arith) e

-- the next of rising ids comes before the rest of them
pub next_before : (all : List TxnId) (i : ℕ) (x none : TxnId) → IsStrictlySortedBy txn_cmp all → i < length all → x ≡ get_or all i none → AllByRecursion (λ y. IsTrue (txn_lt x y)) (drop (i + 1) all)
next_before all i x none r h e =
    let one_more : suc i ≡ i + 1 = omega arith in
    let below = λ (n : ℕ). AllByRecursion (λ y. IsTrue (txn_lt x y)) (drop n all) in
    subst below one_more (next_below all i x none r h e)

pub behind_rest : (taken : List KnownList) (all : List TxnId) (i : ℕ) (none : TxnId) → i < length all → AreBehind taken (drop i all) → AreBehind taken (drop (i + 1) all)
behind_rest taken all i none h k = (subst (AreBehind taken) (drop_more all i none h) k).1

-- of a list no more travels along than of its front
pub front_of_front : (f : TxnId → KnownList) (room left : ℕ) (xs : List TxnId) → front_of_facts room left (map f (take room xs)) ≡ front_of_facts room left (map f xs)
front_of_front f zero left xs = refl
front_of_front f (suc room) left [] = refl
front_of_front f (suc room) left (x ∷ xs) = ap (λ rest. cond (nat_le (length (f x).edges) left) (f x ∷ rest) []) (front_of_front f room (left - length (f x).edges) xs)
