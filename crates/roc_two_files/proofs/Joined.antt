-- Views that are put into two orders, one behind the other
use Rattle.std.proofs.Common.{◌≡◌, ◌≢◌, ◌∙◌, ℕ, suc, ℤ, ◌+◌, ◌<◌, ◌≤◌, nat_lt, Bool, true, false, not, ◌&&◌, ◌||◌, cond, List, [], ◌∷◌, ◌++◌, length, map, refl, sym, ap, arith, inl, inr}
use Rattle.std.proofs.Math.Bool.{or-false}
use Rattle.std.proofs.lemmas.List.Folds.{list_any-append}
use Rattle.std.proofs.lemmas.Bool.{lt-ltb, le-ltb}
use Rattle.roc_sequence.specs.Lists.{Has}
use Rattle.roc_sequence.proofs.Holds.{none_has}
use Rattle.roc_sequence.proofs.Members.{from_has_map}
use Rattle.roc_base.specs.declared.id.TxnId.{TxnId}
use Rattle.roc_base.specs.TxnId.{is_txn}
use Rattle.roc_base.proofs.Ids.{is_txn-ne}
use Rattle.roc_audit.specs.declared.entry.Entry.{Entry}
use Rattle.roc_audit.specs.declared.entry.Entry.TheVariants.{Submitted, Answered}
use Rattle.roc_audit.specs.History.{WasAnswered}
use Rattle.roc_audit.specs.Woven.{Look, woven}
use Rattle.roc_law_world.specs.Witness.{was_answered, looks_again, last_looks, witness_in}
use Rattle.roc_two_files.specs.Orders.{later_by}

-- ---- weaving

-- a test of two numbers that are so many higher
test_later : (n a b : ℕ) → nat_lt (n + a) (n + b) ≡ nat_lt a b
test_later n a b = go (nat_lt a b) refl
  where
    go : (c : Bool) → nat_lt a b ≡ c → nat_lt (n + a) (n + b) ≡ c
    go true e = grind arith
    go false e = grind arith

-- so many more were taken before, and the looks stand behind so many more
woven_later : (n taken : ℕ) (o : List TxnId) (ls : List Look) → woven (n + taken) o (map (later_by n) ls) ≡ woven taken o ls
woven_later n taken o [] = refl
woven_later n taken [] (l ∷ ls) = ap (λ xs. l.id ∷ xs) (woven_later n taken [] ls)
woven_later n taken (t ∷ o) (l ∷ ls) = go (nat_lt taken l.behind) (woven_later n (suc taken) o (l ∷ ls)) (woven_later n taken (t ∷ o) ls)
  where
    next : suc (n + taken) ≡ n + suc taken
    next = omega arith

    go : (b : Bool) → woven (n + suc taken) o (map (later_by n) (l ∷ ls)) ≡ woven (suc taken) o (l ∷ ls) → woven (n + taken) (t ∷ o) (map (later_by n) ls) ≡ woven taken (t ∷ o) ls
        → woven (n + taken) (t ∷ o) (map (later_by n) (l ∷ ls)) ≡ woven taken (t ∷ o) (l ∷ ls)
    go b ih jh = step (nat_lt taken l.behind) (test_later n taken l.behind)
      where
        step : (c : Bool) → nat_lt (n + taken) (n + l.behind) ≡ c
            → woven (n + taken) (t ∷ o) (map (later_by n) (l ∷ ls)) ≡ cond c (t ∷ woven (suc taken) o (l ∷ ls)) (l.id ∷ woven taken (t ∷ o) ls)
        step true e =
            ap (λ c. cond c (t ∷ woven (suc (n + taken)) o (map (later_by n) (l ∷ ls))) (l.id ∷ woven (n + taken) (t ∷ o) (map (later_by n) ls))) e
            ∙ ap (λ xs. t ∷ xs) (ap (λ k. woven k o (map (later_by n) (l ∷ ls))) next ∙ ih)
        step false e =
            ap (λ c. cond c (t ∷ woven (suc (n + taken)) o (map (later_by n) (l ∷ ls))) (l.id ∷ woven (n + taken) (t ∷ o) (map (later_by n) ls))) e
            ∙ ap (λ xs. l.id ∷ xs) jh

-- two orders and their looks: the first looks are behind no more than the first order has
module _ (n : ℕ) (o2 : List TxnId) (l2 : List Look) where
  abbrev late : List Look
  late = map (later_by n) l2

  both : (taken : ℕ) (o1 : List TxnId) (l1 : List Look) → taken + length o1 ≡ n → ((l : Look) → Has l l1 → l.behind ≤ n)
      → woven taken (o1 ++ o2) (l1 ++ late) ≡ woven taken o1 l1 ++ woven 0 o2 l2
  both taken [] [] e f = ap (λ k. woven k o2 late) (same taken e) ∙ woven_later n 0 o2 l2
    where
      same : (taken : ℕ) → taken + 0 ≡ n → taken ≡ n + 0
      same taken e = omega arith
  both taken (t ∷ o1) [] e f = go l2 (both (suc taken) o1 [] (omega arith) f)
    where
      go : (m : List Look) → woven (suc taken) (o1 ++ o2) (map (later_by n) m) ≡ o1 ++ woven 0 o2 m → woven taken (t ∷ (o1 ++ o2)) (map (later_by n) m) ≡ t ∷ (o1 ++ woven 0 o2 m)
      go [] ih = refl
      go (l ∷ m) ih =
          let early : taken < n + l.behind = omega arith in
          ap (λ c. cond c (t ∷ woven (suc taken) (o1 ++ o2) (map (later_by n) (l ∷ m))) (l.id ∷ woven taken (t ∷ (o1 ++ o2)) (map (later_by n) m))) (lt-ltb taken (n + l.behind) early)
          ∙ ap (λ xs. t ∷ xs) ih
  both taken [] (l ∷ l1) e f = go o2 (both taken [] l1 e (λ k i. f k (inr i)))
    where
      past : l.behind ≤ taken
      past = let g = f l (inl refl) in omega arith

      go : (xs : List TxnId) → woven taken xs (l1 ++ late) ≡ woven taken [] l1 ++ woven 0 o2 l2 → woven taken xs (l ∷ (l1 ++ late)) ≡ l.id ∷ (woven taken [] l1 ++ woven 0 o2 l2)
      go [] ih = ap (λ ys. l.id ∷ ys) ih
      go (x ∷ xs) ih =
          ap (λ c. cond c (x ∷ woven (suc taken) xs (l ∷ (l1 ++ late))) (l.id ∷ woven taken (x ∷ xs) (l1 ++ late))) (le-ltb taken l.behind past)
          ∙ ap (λ ys. l.id ∷ ys) ih
  both taken (t ∷ o1) (l ∷ l1) e f = go (nat_lt taken l.behind) (both (suc taken) o1 (l ∷ l1) (omega arith) f) (both taken (t ∷ o1) l1 e (λ k i. f k (inr i)))
    where
      go : (b : Bool) → woven (suc taken) (o1 ++ o2) (l ∷ (l1 ++ late)) ≡ woven (suc taken) o1 (l ∷ l1) ++ woven 0 o2 l2
          → woven taken (t ∷ (o1 ++ o2)) (l1 ++ late) ≡ woven taken (t ∷ o1) l1 ++ woven 0 o2 l2
          → cond b (t ∷ woven (suc taken) (o1 ++ o2) (l ∷ (l1 ++ late))) (l.id ∷ woven taken (t ∷ (o1 ++ o2)) (l1 ++ late))
          ≡ cond b (t ∷ woven (suc taken) o1 (l ∷ l1)) (l.id ∷ woven taken (t ∷ o1) l1) ++ woven 0 o2 l2
      go true ih jh = ap (λ xs. t ∷ xs) ih
      go false ih jh = ap (λ xs. l.id ∷ xs) jh

-- ---- last looks

module _ (n : ℕ) (p : TxnId → Bool) where
  again_later : (l : Look) (ls : List Look) → looks_again (later_by n l) (map (later_by n) ls) ≡ looks_again l ls
  again_later l [] = refl
  again_later l (k ∷ ls) = ap (λ b. is_txn k.id l.id || b) (again_later l ls)

  last_later : (ls : List Look) → last_looks p (map (later_by n) ls) ≡ map (later_by n) (last_looks p ls)
  last_later [] = refl
  last_later (l ∷ ls) =
      ap (λ b. cond (p l.id && not b) (later_by n l ∷ last_looks p (map (later_by n) ls)) (last_looks p (map (later_by n) ls))) (again_later l ls)
      ∙ go (p l.id && not (looks_again l ls)) (last_later ls)
    where
      go : (b : Bool) → last_looks p (map (later_by n) ls) ≡ map (later_by n) (last_looks p ls)
          → cond b (later_by n l ∷ last_looks p (map (later_by n) ls)) (last_looks p (map (later_by n) ls)) ≡ map (later_by n) (cond b (l ∷ last_looks p ls) (last_looks p ls))
      go true ih = ap (λ xs. later_by n l ∷ xs) ih
      go false ih = ih

-- who looks in none of these does not look again there
again_front : (l : Look) (xs ys : List Look) → ((k : Look) → Has k ys → k.id ≢ l.id) → looks_again l (xs ++ ys) ≡ looks_again l xs
again_front l xs ys f =
    list_any-append (λ (k : Look). is_txn k.id l.id) xs ys
    ∙ (ap (λ b. looks_again l xs || b) (none_has (λ (k : Look). is_txn k.id l.id) ys (λ k i. is_txn-ne k.id l.id (f k i))) ∙ or-false (looks_again l xs))

-- of looks of other ids the last ones are those of each
last_append : (p : TxnId → Bool) (xs ys : List Look) → ((k l : Look) → Has k xs → Has l ys → k.id ≢ l.id) → last_looks p (xs ++ ys) ≡ last_looks p xs ++ last_looks p ys
last_append p [] ys f = refl
last_append p (x ∷ xs) ys f =
    ap (λ b. cond (p x.id && not b) (x ∷ last_looks p (xs ++ ys)) (last_looks p (xs ++ ys))) (again_front x xs ys (λ k i e. f x k (inl refl) i (sym e)))
    ∙ go (p x.id && not (looks_again x xs)) (last_append p xs ys (λ k l i j. f k l (inr i) j))
  where
    go : (b : Bool) → last_looks p (xs ++ ys) ≡ last_looks p xs ++ last_looks p ys
        → cond b (x ∷ last_looks p (xs ++ ys)) (last_looks p (xs ++ ys)) ≡ cond b (x ∷ last_looks p xs) (last_looks p xs) ++ last_looks p ys
    go true ih = ap (λ zs. x ∷ zs) ih
    go false ih = ih

-- the test is asked of the looks' ids alone
last_same : (p q : TxnId → Bool) (ls : List Look) → ((l : Look) → Has l ls → p l.id ≡ q l.id) → last_looks p ls ≡ last_looks q ls
last_same p q [] f = refl
last_same p q (l ∷ ls) f =
    let one = f l (inl refl) in
    let rest = last_same p q ls (λ k i. f k (inr i)) in
    λ i. cond (one i && not (looks_again l ls)) (l ∷ rest i) (rest i)

-- ---- who was answered

answered_append : (xs ys : List Entry) (t : TxnId) → was_answered (xs ++ ys) t ≡ (was_answered xs t || was_answered ys t)
answered_append [] ys t = refl
answered_append (Submitted u p a ∷ xs) ys t = answered_append xs ys t
answered_append (Answered u reply ∷ xs) ys t = go (is_txn u t) (answered_append xs ys t)
  where
    go : (b : Bool) → was_answered (xs ++ ys) t ≡ (was_answered xs t || was_answered ys t) → (b || was_answered (xs ++ ys) t) ≡ ((b || was_answered xs t) || was_answered ys t)
    go true ih = refl
    go false ih = ih

not_answered : (xs : List Entry) (t : TxnId) → ((reply : List ℤ) → ¬ WasAnswered xs t reply) → was_answered xs t ≡ false
not_answered [] t f = refl
not_answered (Submitted u p a ∷ xs) t f = not_answered xs t (λ reply h. f reply (inr h))
not_answered (Answered u reply ∷ xs) t f =
    ap (λ b. b || was_answered xs t) (is_txn-ne u t (λ e. f reply (inl (ap (λ x. Answered x reply) (sym e))))) ∙ not_answered xs t (λ r h. f r (inr h))

-- ---- both

module _ (h1 h2 : List Entry) (o1 o2 : List TxnId) (l1 l2 : List Look)
    (few : (l : Look) → Has l (last_looks (was_answered h1) l1) → l.behind ≤ length o1)
    (apart : (k l : Look) → Has k l1 → Has l l2 → k.id ≢ l.id)
    (first : (l : Look) (reply : List ℤ) → Has l l1 → ¬ WasAnswered h2 l.id reply)
    (second : (l : Look) (reply : List ℤ) → Has l l2 → ¬ WasAnswered h1 l.id reply) where
  abbrev n : ℕ
  n = length o1

  parts : (k l : Look) → Has k l1 → Has l (map (later_by n) l2) → k.id ≢ l.id
  parts k l i j e = let r = from_has_map (later_by n) l l2 j in apart k r.0 i r.1 (e ∙ ap (λ (x : Look). x.id) r.2)

  shown_front : (l : Look) → Has l l1 → was_answered (h1 ++ h2) l.id ≡ was_answered h1 l.id
  shown_front l i = answered_append h1 h2 l.id ∙ (ap (λ b. was_answered h1 l.id || b) (not_answered h2 l.id (λ reply. first l reply i)) ∙ or-false (was_answered h1 l.id))

  shown_behind : (l : Look) → Has l l2 → was_answered (h1 ++ h2) l.id ≡ was_answered h2 l.id
  shown_behind l i = answered_append h1 h2 l.id ∙ ap (λ b. b || was_answered h2 l.id) (not_answered h1 l.id (λ reply. second l reply i))

  last : last_looks (was_answered (h1 ++ h2)) (l1 ++ map (later_by n) l2) ≡ last_looks (was_answered h1) l1 ++ map (later_by n) (last_looks (was_answered h2) l2)
  last =
      let one = last_same (was_answered (h1 ++ h2)) (was_answered h1) l1 shown_front in
      let two = last_later n (was_answered (h1 ++ h2)) l2 ∙ ap (map (later_by n)) (last_same (was_answered (h1 ++ h2)) (was_answered h2) l2 shown_behind) in
      last_append (was_answered (h1 ++ h2)) l1 (map (later_by n) l2) parts ∙ (λ i. one i ++ two i)

  pub joined : witness_in (h1 ++ h2) (o1 ++ o2) (l1 ++ map (later_by (length o1)) l2) ≡ witness_in h1 o1 l1 ++ witness_in h2 o2 l2
  joined = ap (woven 0 (o1 ++ o2)) last ∙ both n o2 (last_looks (was_answered h2) l2) 0 o1 (last_looks (was_answered h1) l1) (omega arith) few
