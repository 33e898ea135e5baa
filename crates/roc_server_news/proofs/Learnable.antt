-- Lists of different transactions of which none is known can be learnt one after another
use Rattle.std.proofs.Common.{◌≡◌, Bool, true, false, cond, not, List, [], ◌∷◌, ◌++◌, Option, Some, None, is_some, filter, IsTrue, refl, ap}
use Rattle.std.specs.List.{AllByRecursion}
use Rattle.roc_sequence.proofs.Holds.{all_append}
use Rattle.roc_base.specs.declared.id.TxnId.{TxnId}
use Rattle.roc_base.specs.TxnId.{is_txn, txn_lt}
use Rattle.roc_base.specs.Edge.{Dependency}
use Rattle.roc_base.proofs.Ids.{txn_lt-ne, txn_lt-trans}
use Rattle.roc_depgraph.specs.declared.known.KnownList.{KnownList}
use Rattle.roc_depgraph.specs.Deps.{list_of, is_known}
use Rattle.roc_msg.specs.Facts.{is_fact_before, AreFacts}
use Rattle.roc_step.specs.Learning.{AreLearnable}
use Rattle.roc_step.specs.Carried.{list_with, carried, unknown_of}

-- ---- facts stay facts

passes : (p : KnownList → Bool) (xs : List KnownList) → AllByRecursion (λ x. IsTrue (p x)) (filter p xs)
passes p [] = tt
passes p (x ∷ xs) = go (p x) refl (passes p xs)
  where
    go : (b : Bool) → p x ≡ b → AllByRecursion (λ y. IsTrue (p y)) (filter p xs) → AllByRecursion (λ y. IsTrue (p y)) (cond b (x ∷ filter p xs) (filter p xs))
    go true k ih = (k, ih)
    go false k ih = ih

kept_all : (P : KnownList → Type 0) (p : KnownList → Bool) (xs : List KnownList) → AllByRecursion P xs → AllByRecursion P (filter p xs)
kept_all P p [] h = tt
kept_all P p (x ∷ xs) h = elim (p x) as (λ b. AllByRecursion P (cond b (x ∷ filter p xs) (filter p xs))) [ true ↦ (h.0, kept_all P p xs h.1) | false ↦ kept_all P p xs h.1 ]

kept_rising : (p : KnownList → Bool) (xs : List KnownList) → AreFacts xs → AreFacts (filter p xs)
kept_rising p [] r = tt
kept_rising p (x ∷ xs) r = elim (p x) as (λ b. AreFacts (cond b (x ∷ filter p xs) (filter p xs))) [ true ↦ (kept_all (λ y. IsTrue (txn_lt x.of y.of)) p xs r.0, kept_rising p xs r.1) | false ↦ kept_rising p xs r.1 ]

further : (a f : KnownList) (bs : List KnownList) → txn_lt a.of f.of ≡ true → AllByRecursion (λ b. IsTrue (txn_lt f.of b.of)) bs → AllByRecursion (λ b. IsTrue (txn_lt a.of b.of)) bs
further a f [] h k = tt
further a f (b ∷ bs) h k = (txn_lt-trans a.of f.of b.of h k.0, further a f bs h k.1)

joined_rising : (f : KnownList) (xs bs : List KnownList) → AreFacts xs → AllByRecursion (λ x. IsTrue (txn_lt x.of f.of)) xs → AreFacts bs → AllByRecursion (λ b. IsTrue (txn_lt f.of b.of)) bs → AreFacts (xs ++ f ∷ bs)
joined_rising f [] bs r h q k = (k, q)
joined_rising f (x ∷ xs) bs r h q k =
    (all_append (λ y. IsTrue (txn_lt x.of y.of)) xs (f ∷ bs) r.0 (h.0, further x f bs h.0 k), joined_rising f xs bs r.1 h.1 q k)

carried_rising : (id : TxnId) (edges : List Dependency) (facts : List KnownList) → AreFacts facts → AreFacts (carried id edges facts)
carried_rising id edges facts r =
    let f = list_with id edges in
    joined_rising f (filter (λ x. is_fact_before x f) facts) (filter (λ x. is_fact_before f x) facts)
    (kept_rising (λ x. is_fact_before x f) facts r) (passes (λ x. is_fact_before x f) facts)
    (kept_rising (λ x. is_fact_before f x) facts r) (passes (λ x. is_fact_before f x) facts)

-- ---- what is unknown stays so

abbrev AreUnknown : List KnownList → List KnownList → Type 0
AreUnknown known xs = AllByRecursion (λ k. list_of k.of known ≡ None) xs

still_unknown : (known : List KnownList) (k : KnownList) (id : TxnId) → list_of id known ≡ None → is_txn k.of id ≡ false → list_of id (known ++ k ∷ []) ≡ None
still_unknown [] k id h n = ap (λ b. cond b (Some k.edges) None) n
still_unknown (x ∷ xs) k id h n = go (is_txn x.of id) h (λ e. still_unknown xs k id e n)
  where
    go : (b : Bool) → cond b (Some x.edges) (list_of id xs) ≡ None → (list_of id xs ≡ None → list_of id (xs ++ k ∷ []) ≡ None) → cond b (Some x.edges) (list_of id (xs ++ k ∷ [])) ≡ None
    go true e ih = absurd (cc)
    go false e ih = ih e

all_still : (known : List KnownList) (k : KnownList) (xs : List KnownList) → AreUnknown known xs → AllByRecursion (λ x. IsTrue (txn_lt k.of x.of)) xs → AreUnknown (known ++ k ∷ []) xs
all_still known k [] h r = tt
all_still known k (x ∷ xs) h r = (still_unknown known k x.of h.0 (txn_lt-ne k.of x.of r.0), all_still known k xs h.1 r.1)

learnable : (known xs : List KnownList) → AreUnknown known xs → AreFacts xs → AreLearnable known xs
learnable known [] h r = tt
learnable known (x ∷ xs) h r = (h.0, learnable (known ++ x ∷ []) xs (all_still known x xs h.1 r.0) r.1)

none_from : (o : Option (List Dependency)) → not (is_some o) ≡ true → o ≡ None
none_from None h = refl
none_from (Some es) h = absurd (cc)

all_unknown : (known xs : List KnownList) → AreUnknown known (unknown_of known xs)
all_unknown known [] = tt
all_unknown known (x ∷ xs) = go (not (is_known known x.of)) refl (all_unknown known xs)
  where
    go : (b : Bool) → not (is_known known x.of) ≡ b → AreUnknown known (unknown_of known xs) → AreUnknown known (cond b (x ∷ unknown_of known xs) (unknown_of known xs))
    go true k ih = (none_from (list_of x.of known) k, ih)
    go false k ih = ih

pub unknown_learnable : (known xs : List KnownList) → AreFacts xs → AreLearnable known (unknown_of known xs)
unknown_learnable known xs r = learnable known (unknown_of known xs) (all_unknown known xs) (kept_rising (λ k. not (is_known known k.of)) xs r)

pub carried_learnable : (known : List KnownList) (id : TxnId) (edges : List Dependency) (facts : List KnownList) → AreFacts facts → AreLearnable known (unknown_of known (carried id edges facts))
carried_learnable known id edges facts r = unknown_learnable known (carried id edges facts) (carried_rising id edges facts r)
