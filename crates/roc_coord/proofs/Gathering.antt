-- A list put into its place among facts
use Rattle.std.proofs.Common.{◌≡◌, ℕ, zero, suc, ◌<◌, ◌≤◌, ◌+◌, ◌-◌, Bool, true, false, not, cond, List, [], ◌∷◌, ◌++◌, length, get_or, drop, set, IsTrue, refl, sym, ap, subst, ◌∙◌, arith}
use Rattle.std.specs.Prelude.{insert}
use Rattle.std.proofs.lemmas.List.{drop_more}
use Rattle.std.proofs.lemmas.List.Recursion.{is_position_or_len}
use Rattle.std.specs.List.{filter, flat_map, position_or_len, AllByRecursion}
use Rattle.roc_sequence.specs.Places.{place_of}
use Rattle.roc_sequence.proofs.Holds.{all_append}
use Rattle.roc_sequence.proofs.Places.{place_of-le}
use Rattle.roc_base.specs.declared.id.TxnId.{TxnId}
use Rattle.roc_base.specs.TxnId.{is_txn, txn_lt}
use Rattle.roc_base.specs.Equalities.{is_txn-true}
use Rattle.roc_base.proofs.Ids.{txn_lt-itself, txn_lt-trans, txn_lt-asym, txn_lt-other}
use Rattle.roc_depgraph.specs.declared.known.KnownList.{KnownList}
use Rattle.roc_msg.specs.Facts.{is_fact_before, AreFacts}
use Rattle.roc_msg.specs.InPlace.{in_place}
use Rattle.roc_coord.specs.Starts.{gathered}
use Rattle.roc_coord.specs.Inner.FactPlace.{fact_place, IsFactAt, IsFactGap}

-- an id comes before those of all these
abbrev pub ComesBeforeAll : TxnId → List KnownList → Type 0
ComesBeforeAll id facts = AllByRecursion (λ later. IsTrue (txn_lt id later.of)) facts

before_chain : (a b : TxnId) (xs : List KnownList) → txn_lt a b ≡ true → ComesBeforeAll b xs → ComesBeforeAll a xs
before_chain a b [] h k = tt
before_chain a b (x ∷ xs) h k = (txn_lt-trans a b x.of h k.0, before_chain a b xs h k.1)

all_filter : (p : KnownList → Bool) (id : TxnId) (xs : List KnownList) → ComesBeforeAll id xs → ComesBeforeAll id (filter p xs)
all_filter p id [] h = tt
all_filter p id (x ∷ xs) h = elim (p x) as (λ b. ComesBeforeAll id (cond b (x ∷ filter p xs) (filter p xs))) [ true ↦ (h.0, all_filter p id xs h.1) | false ↦ all_filter p id xs h.1 ]

-- of those behind, none comes before and each comes behind
none_before : (f : KnownList) (xs : List KnownList) → ComesBeforeAll f.of xs → filter (λ x. is_fact_before x f) xs ≡ []
none_before f [] h = refl
none_before f (x ∷ xs) h = ap (λ b. cond b (x ∷ filter (λ y. is_fact_before y f) xs) (filter (λ y. is_fact_before y f) xs)) (txn_lt-asym f.of x.of h.0) ∙ none_before f xs h.1

each_behind : (f : KnownList) (xs : List KnownList) → ComesBeforeAll f.of xs → filter (λ x. is_fact_before f x) xs ≡ xs
each_behind f [] h = refl
each_behind f (x ∷ xs) h =
    ap (λ b. cond b (x ∷ filter (λ y. is_fact_before f y) xs) (filter (λ y. is_fact_before f y) xs)) h.0
    ∙ ap (λ ys. x ∷ ys) (each_behind f xs h.1)

put_first : (f : KnownList) (xs : List KnownList) → ComesBeforeAll f.of xs → in_place is_fact_before f xs ≡ f ∷ xs
put_first f xs h = ap (λ ys. ys ++ f ∷ filter (λ x. is_fact_before f x) xs) (none_before f xs h) ∙ ap (λ ys. f ∷ ys) (each_behind f xs h)

put_behind : (f x : KnownList) (xs : List KnownList) → txn_lt x.of f.of ≡ true → in_place is_fact_before f (x ∷ xs) ≡ x ∷ in_place is_fact_before f xs
put_behind f x xs h =
    let before = filter (λ y. is_fact_before y f) xs in
    let behind = filter (λ y. is_fact_before f y) xs in
    ap (λ b. cond b (x ∷ before) before ++ f ∷ cond (txn_lt f.of x.of) (x ∷ behind) behind) h
    ∙ ap (λ b. (x ∷ before) ++ f ∷ cond b (x ∷ behind) behind) (txn_lt-asym x.of f.of h)

put_over : (f x : KnownList) (xs : List KnownList) → txn_lt x.of f.of ≡ false → txn_lt f.of x.of ≡ false → in_place is_fact_before f (x ∷ xs) ≡ in_place is_fact_before f xs
put_over f x xs h k =
    let before = filter (λ y. is_fact_before y f) xs in
    let behind = filter (λ y. is_fact_before f y) xs in
    ap (λ b. cond b (x ∷ before) before ++ f ∷ cond (txn_lt f.of x.of) (x ∷ behind) behind) h
    ∙ ap (λ b. before ++ f ∷ cond b (x ∷ behind) behind) k

-- where the first one is of the same id
put_same : (f x : KnownList) (xs : List KnownList) → x.of ≡ f.of → ComesBeforeAll x.of xs → in_place is_fact_before f (x ∷ xs) ≡ f ∷ xs
put_same f x xs e h =
    let one = λ (id : TxnId). txn_lt id f.of ≡ false in
    let other = λ (id : TxnId). txn_lt f.of id ≡ false in
    let below = λ (id : TxnId). ComesBeforeAll id xs in
    put_over f x xs (subst one (sym e) (txn_lt-itself f.of)) (subst other (sym e) (txn_lt-itself f.of))
    ∙ put_first f xs (subst below e h)

-- a new id goes where it stands
insert_place : (f : KnownList) (xs : List KnownList) → AreFacts xs → ((d : KnownList) → fact_place f.of xs < length xs → is_txn (get_or xs (fact_place f.of xs) d).of f.of ≡ false)
    → insert xs (fact_place f.of xs) f ≡ in_place is_fact_before f xs
insert_place f [] r h = refl
insert_place f (x ∷ xs) r h = go (txn_lt x.of f.of) refl h (insert_place f xs r.1)
  where
    go : (s : Bool) → txn_lt x.of f.of ≡ s → ((d : KnownList) → cond (not s) 0 (suc (fact_place f.of xs)) < suc (length xs) → is_txn (get_or (x ∷ xs) (cond (not s) 0 (suc (fact_place f.of xs))) d).of f.of ≡ false)
        → (((d : KnownList) → fact_place f.of xs < length xs → is_txn (get_or xs (fact_place f.of xs) d).of f.of ≡ false) → insert xs (fact_place f.of xs) f ≡ in_place is_fact_before f xs)
        → insert (x ∷ xs) (cond (not s) 0 (suc (fact_place f.of xs))) f ≡ in_place is_fact_before f (x ∷ xs)
    go true e h ih = ap (λ ys. x ∷ ys) (ih (λ d l. h d (omega arith))) ∙ sym (put_behind f x xs e)
    go false e h ih =
        let first : txn_lt f.of x.of ≡ true = txn_lt-other x.of f.of (h x (omega arith)) e in
        sym (put_first f (x ∷ xs) (first, before_chain f.of x.of xs first r.0))

-- a list of a known id goes over the one that stands there
set_place : (f : KnownList) (xs : List KnownList) → AreFacts xs → fact_place f.of xs < length xs → ((d : KnownList) → (get_or xs (fact_place f.of xs) d).of ≡ f.of)
    → set xs (fact_place f.of xs) f ≡ in_place is_fact_before f xs
set_place f [] r l h = absurd (omega arith)
set_place f (x ∷ xs) r l h = go (txn_lt x.of f.of) refl l h (set_place f xs r.1)
  where
    go : (s : Bool) → txn_lt x.of f.of ≡ s → cond (not s) 0 (suc (fact_place f.of xs)) < suc (length xs) → ((d : KnownList) → (get_or (x ∷ xs) (cond (not s) 0 (suc (fact_place f.of xs))) d).of ≡ f.of)
        → (fact_place f.of xs < length xs → ((d : KnownList) → (get_or xs (fact_place f.of xs) d).of ≡ f.of) → set xs (fact_place f.of xs) f ≡ in_place is_fact_before f xs)
        → set (x ∷ xs) (cond (not s) 0 (suc (fact_place f.of xs))) f ≡ in_place is_fact_before f (x ∷ xs)
    go true e l h ih = ap (λ ys. x ∷ ys) (ih (omega arith) h) ∙ sym (put_behind f x xs e)
    go false e l h ih = sym (put_same f x xs (h x) r.0)

-- within a list the value for past its end does not matter
get_or-any : (xs : List KnownList) (i : ℕ) (d x : KnownList) → i < length xs → get_or xs i d ≡ get_or xs i x
get_or-any [] i d x h = absurd (omega arith)
get_or-any (y ∷ ys) zero d x h = refl
get_or-any (y ∷ ys) (suc i) d x h = get_or-any ys i d x (omega arith)

pub fact_at : (id : TxnId) (x : KnownList) (xs : List KnownList) (at : ℕ) → AreFacts xs → at ≡ fact_place id xs → at < length xs → x ≡ get_or xs at x → is_txn x.of id ≡ true → IsFactAt id xs at
fact_at id x xs at r e l k t =
    let put_at : (fact : KnownList) → fact.of ≡ id → set xs at fact ≡ in_place is_fact_before fact xs =
    λ fact same.
    let own = λ (i : TxnId). at ≡ fact_place i xs in
    let place = subst own (sym same) e in
    let within = subst (λ n. n < length xs) place l in
    let one : (d : KnownList) → (get_or xs at d).of ≡ fact.of = λ d. ap (λ (v : KnownList). v.of) (get_or-any xs at d x l ∙ sym k) ∙ (is_txn-true x.of id t ∙ sym same) in
    let all = λ (n : ℕ). (d : KnownList) → (get_or xs n d).of ≡ fact.of in
    ap (λ n. set xs n fact) place ∙ set_place fact xs r within (subst all place one)
    in
    record { within = l; put = put_at }

pub fact_gap : (id : TxnId) (xs : List KnownList) (at : ℕ) → AreFacts xs → at ≡ fact_place id xs → at ≤ length xs → ((d : KnownList) → at < length xs → is_txn (get_or xs at d).of id ≡ false) → IsFactGap id xs at
fact_gap id xs at r e l k =
    let put_at : (fact : KnownList) → fact.of ≡ id → insert xs at fact ≡ in_place is_fact_before fact xs =
    λ fact same.
    let own = λ (i : TxnId). at ≡ fact_place i xs in
    let place = subst own (sym same) e in
    let not_own = λ (i : TxnId). (d : KnownList) → at < length xs → is_txn (get_or xs at d).of i ≡ false in
    let other = subst not_own (sym same) k in
    let all = λ (n : ℕ). (d : KnownList) → n < length xs → is_txn (get_or xs n d).of fact.of ≡ false in
    ap (λ n. insert xs n fact) place ∙ insert_place fact xs r (subst all place other)
    in
    record { within = l; put = put_at }

-- one element, whatever stands for past the end
pub at_other : (id : TxnId) (x : KnownList) (xs : List KnownList) (at : ℕ) → x ≡ get_or xs at x → is_txn x.of id ≡ false → (d : KnownList) → at < length xs → is_txn (get_or xs at d).of id ≡ false
at_other id x xs at e t d l = ap (λ (v : KnownList). is_txn v.of id) (get_or-any xs at d x l ∙ sym e) ∙ t

pub place_within : (id : TxnId) (xs : List KnownList) (at : ℕ) → at ≡ fact_place id xs → at ≤ length xs
place_within id xs at e = subst (λ n. n ≤ length xs) (sym e) (place_of-le (λ fact. not (txn_lt fact.of id)) xs)

pub at_end : (id : TxnId) (xs : List KnownList) (at : ℕ) → length xs ≤ at → (d : KnownList) → at < length xs → is_txn (get_or xs at d).of id ≡ false
at_end id xs at h d l = absurd (omega arith)

pub place_is : (id : TxnId) (xs : List KnownList) → position_or_len (λ fact. not (txn_lt fact.of id)) xs ≡ fact_place id xs
place_is id xs = sym (is_position_or_len (place_of is_behind) is_behind refl step xs)
  where
    is_behind : KnownList → Bool
    is_behind fact = not (txn_lt fact.of id)

    step : (x : KnownList) (ys : List KnownList) → place_of is_behind (x ∷ ys) ≡ cond (is_behind x) 0 (1 + place_of is_behind ys)
    step x ys = let more : suc (place_of is_behind ys) ≡ 1 + place_of is_behind ys = omega arith in ap (λ n. cond (is_behind x) 0 n) more

-- one more of those that were told is gathered
pub gathered_more : (told : List KnownList) (n : ℕ) (x : KnownList) (rest : List KnownList) → n < length told → x ≡ get_or told n x → gathered (drop n told ++ rest) ≡ in_place is_fact_before x (gathered (drop (n + 1) told ++ rest))
gathered_more told n x rest h e = ap (λ ys. gathered (ys ++ rest)) (drop_more told n x h ∙ ap (λ y. y ∷ drop (n + 1) told) (sym e))

-- facts stay facts
pub AreFacts-in_place : (f : KnownList) (xs : List KnownList) → AreFacts xs → AreFacts (in_place is_fact_before f xs)
AreFacts-in_place f [] r = (tt, tt)
AreFacts-in_place f (x ∷ xs) r = go (txn_lt x.of f.of) (txn_lt f.of x.of) refl refl (AreFacts-in_place f xs r.1)
  where
    go : (s t : Bool) → txn_lt x.of f.of ≡ s → txn_lt f.of x.of ≡ t → AreFacts (in_place is_fact_before f xs) → AreFacts (in_place is_fact_before f (x ∷ xs))
    go true t e k ih =
        let before = all_filter (λ y. is_fact_before y f) x.of xs r.0 in
        let behind = all_filter (λ y. is_fact_before f y) x.of xs r.0 in
        let all = all_append (λ later. IsTrue (txn_lt x.of later.of)) (filter (λ y. is_fact_before y f) xs) (f ∷ filter (λ y. is_fact_before f y) xs) before (e, behind) in
        subst AreFacts (sym (put_behind f x xs e)) (all, ih)
    go false true e k ih =
        let all : ComesBeforeAll f.of (x ∷ xs) = (k, before_chain f.of x.of xs k r.0) in
        subst AreFacts (sym (put_first f (x ∷ xs) all)) (all, r)
    go false false e k ih = subst AreFacts (sym (put_over f x xs e k)) ih

-- what one more of several has comes before what those behind it have
pub flat_drop : {A B : Type 0} (f : A → List B) (xs : List A) (i : ℕ) (x : A) → 0 < i → i ≤ length xs → x ≡ get_or xs (i - 1) x → flat_map f (drop (i - 1) xs) ≡ f x ++ flat_map f (drop i xs)
flat_drop {A} {B} f xs i x some most is =
    let within : i - 1 < length xs = omega arith in
    let next : (i - 1) + 1 ≡ i = omega arith in
    let first : A → List B = λ y. f y ++ flat_map f (drop ((i - 1) + 1) xs) in
    let behind : ℕ → List B = λ n. f x ++ flat_map f (drop n xs) in
    ap (flat_map f) (drop_more xs (i - 1) x within) ∙ ap first (sym is) ∙ ap behind next
