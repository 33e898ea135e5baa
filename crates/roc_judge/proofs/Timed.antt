-- The pairs of one log's answers and submissions lead where answers stand before submissions, and nowhere else
use Rattle.std.proofs.Common.{◌≡◌, ℕ, zero, suc, ◌+◌, ◌≤◌, nat_lt, Bool, true, false, if◌then◌else◌, List, [], ◌∷◌, ◌++◌, length, map, take, drop, ℤ, refl, sym, ap, subst, ◌∙◌, ◌⊎◌, inl}
use Rattle.std.proofs.Common.{inr, append_assoc, Result, Ok, Err, OnOk, arith}
use Rattle.std.proofs.lemmas.List.{length-append}
use Rattle.roc_sequence.specs.Lists.{Has}
use Rattle.roc_sequence.proofs.Members.{has_left, has_right, has_append, has_more, has_map, from_has_map}
use Rattle.roc_base.specs.declared.id.TxnId.{TxnId}
use Rattle.roc_base.specs.TxnId.{is_txn}
use Rattle.roc_base.specs.Equalities.{is_txn-true}
use Rattle.roc_depgraph.specs.Reach.{Reaches, direct}
use Rattle.roc_depgraph.proofs.Chains.{joined_chain}
use Rattle.roc_audit.specs.declared.entry.Entry.{Entry}
use Rattle.roc_audit.specs.declared.entry.Entry.TheVariants.{Submitted, Answered}
use Rattle.roc_audit.specs.History.{WasSubmitted, IsAnsweredBefore}
use Rattle.roc_precedence.specs.declared.pair.Pair.{Pair}
use Rattle.roc_judge.specs.Inner.Times.{pair_of, greater, opened, time_walk}

pub on_ok_three : {T E A B C D : Type 0} (r : Result T E) → OnOk r A → OnOk r B → OnOk r C → (A → B → C → D) → OnOk r D
on_ok_three (Ok x) a b c f = f a b c
on_ok_three (Err e) a b c f = tt

pub submitted_walk : (begun now : TxnId → ℕ) (answers others : List TxnId) (low bottom : ℕ) (t : TxnId) (proc : ℕ) (args : List ℤ) (es : List Entry) (pairs more : List Pair)
    → more ≡ pairs ++ map (pair_of t) (drop low answers) → ((u : TxnId) → now u ≡ opened begun t (length answers) u) → others ≡ answers → bottom ≡ low
    → more ++ time_walk now others bottom es ≡ pairs ++ time_walk begun answers low (Submitted t proc args ∷ es)
submitted_walk begun now answers others low bottom t proc args es pairs more m n a l =
    (λ i. m i ++ time_walk (λ u. n u i) (a i) (l i) es) ∙ append_assoc pairs (map (pair_of t) (drop low answers)) (time_walk (opened begun t (length answers)) answers low es)

-- ---- they lead

has_front_or : {A : Type 0} (n : ℕ) (xs : List A) (a : A) → Has a xs → Has a (take n xs) ⊎ Has a (drop n xs)
has_front_or n [] a h = elim h [ ]
has_front_or zero (x ∷ xs) a h = inr h
has_front_or (suc n) (x ∷ xs) a (inl e) = inl (inl e)
has_front_or (suc n) (x ∷ xs) a (inr h) =
    elim (has_front_or n xs a h) [
      | inl k ↦ inl (inr k)
      | inr k ↦ inr k
    ]

has_front : {A : Type 0} (n : ℕ) (xs : List A) (a : A) → Has a (take n xs) → Has a xs
has_front zero xs a h = elim h [ ]
has_front (suc n) [] a h = elim h [ ]
has_front (suc n) (x ∷ xs) a (inl e) = inl e
has_front (suc n) (x ∷ xs) a (inr h) = inr (has_front n xs a h)

has_back : {A : Type 0} (n : ℕ) (xs : List A) (a : A) → Has a (drop n xs) → Has a xs
has_back zero xs a h = h
has_back (suc n) [] a h = h
has_back (suc n) (x ∷ xs) a h = inr (has_back n xs a h)

-- one more at the end
front_more_has : {A : Type 0} (n : ℕ) (xs : List A) (x a : A) → n ≤ length xs → Has a (take n (xs ++ x ∷ [])) → Has a (take n xs)
front_more_has zero xs x a l h = h
front_more_has (suc n) [] x a l h = absurd (omega arith)
front_more_has (suc n) (y ∷ ys) x a l (inl e) = inl e
front_more_has (suc n) (y ∷ ys) x a l (inr h) = inr (front_more_has n ys x a (omega arith) h)

back_more : {A : Type 0} (n : ℕ) (xs : List A) (x a : A) → Has a (drop n xs) → Has a (drop n (xs ++ x ∷ []))
back_more zero xs x a h = has_left a xs (x ∷ []) h
back_more (suc n) [] x a h = elim h [ ]
back_more (suc n) (y ∷ ys) x a h = back_more n ys x a h

back_own : {A : Type 0} (n : ℕ) (xs : List A) (x : A) → n ≤ length xs → Has x (drop n (xs ++ x ∷ []))
back_own zero xs x l = has_right x xs (x ∷ []) (inl refl)
back_own (suc n) [] x l = absurd (omega arith)
back_own (suc n) (y ∷ ys) x l = back_own n ys x (omega arith)

module _ (E : TxnId → TxnId → Type 0) where
  abbrev AreEdges : List Pair → Type 0
  AreEdges pairs = (p : Pair) → Has p pairs → E p.earlier p.later

  record IsWalked (begun : TxnId → ℕ) (answers : List TxnId) (low : ℕ) : Type 0 where
    low_within : low ≤ length answers
    begun_within : (t : TxnId) → begun t ≤ length answers
    -- each answer is among the last ones, or leads to one of these
    ahead : (u : TxnId) → Has u answers → Has u (drop low answers) ⊎ ((v : TxnId) × Has v (drop low answers) × Reaches E u v)
    -- and the answers before a submission lead to it
    led : (u t : TxnId) → Has u (take (begun t) answers) → Reaches E u t

  to_submitted : (answers : List TxnId) (low : ℕ) (t u : TxnId) → AreEdges (map (pair_of t) (drop low answers))
      → Has u (drop low answers) ⊎ ((v : TxnId) × Has v (drop low answers) × Reaches E u v) → Reaches E u t
  to_submitted answers low t u edges (inl h) = direct (edges (pair_of t u) (has_map (pair_of t) u (drop low answers) h))
  to_submitted answers low t u edges (inr (v, h, r)) = joined_chain E u v t r (direct (edges (pair_of t v) (has_map (pair_of t) v (drop low answers) h)))

  submitted_walks : (begun : TxnId → ℕ) (answers : List TxnId) (low : ℕ) (t : TxnId) → IsWalked begun answers low → AreEdges (map (pair_of t) (drop low answers))
      → IsWalked (opened begun t (length answers)) answers low
  submitted_walks begun answers low t w edges = record {
    low_within = w.low_within;
    begun_within = λ u. within u (is_txn t u);
    ahead = w.ahead;
    led = λ u v. leads u v (is_txn t v) refl;
  }
    where
      within : (u : TxnId) (b : Bool) → (if b then length answers else begun u) ≤ length answers
      within u true = omega arith
      within u false = w.begun_within u

      leads : (u v : TxnId) (b : Bool) → is_txn t v ≡ b → Has u (take (if b then length answers else begun v) answers) → Reaches E u v
      leads u v true e h = subst (λ x. Reaches E u x) (is_txn-true t v e) (to_submitted answers low t u edges (w.ahead u (has_front (length answers) answers u h)))
      leads u v false e h = w.led u v h

  answered_walks : (begun : TxnId → ℕ) (answers : List TxnId) (low : ℕ) (t : TxnId) → IsWalked begun answers low → IsWalked begun (answers ++ t ∷ []) (greater low (begun t))
  answered_walks begun answers low t w = go (nat_lt low (begun t)) refl
    where
      longer : length (answers ++ t ∷ []) ≡ length answers + 1
      longer = length-append answers (t ∷ [])

      within : (u : TxnId) → begun u ≤ length (answers ++ t ∷ [])
      within u = let h = w.begun_within u in let k = longer in omega arith

      led : (u v : TxnId) → Has u (take (begun v) (answers ++ t ∷ [])) → Reaches E u v
      led u v h = w.led u v (front_more_has (begun v) answers t u (w.begun_within v) h)

      go : (b : Bool) → nat_lt low (begun t) ≡ b → IsWalked begun (answers ++ t ∷ []) (if b then begun t else low)
      go true e = record {
        low_within = within t;
        begun_within = within;
        ahead = λ u h. elim (has_more u t answers h) [
          | inl k ↦ (elim (has_front_or (begun t) answers u k) [
            | inl j ↦ inr (t, back_own (begun t) answers t (w.begun_within t), w.led u t j)
            | inr j ↦ inl (back_more (begun t) answers t u j)
          ])
          | inr i ↦ inl (subst (λ x. Has x (drop (begun t) (answers ++ t ∷ []))) (sym i) (back_own (begun t) answers t (w.begun_within t)))
        ];
        led = led;
      }
      go false e = record {
        low_within = (let h = w.low_within in let k = longer in omega arith);
        begun_within = within;
        ahead = λ u h. elim (has_more u t answers h) [
          | inl k ↦ (elim (w.ahead u k) [
            | inl j ↦ inl (back_more low answers t u j)
            | inr j ↦ inr (j.0, back_more low answers t j.0 j.1, j.2)
          ])
          | inr i ↦ inl (subst (λ x. Has x (drop low (answers ++ t ∷ []))) (sym i) (back_own low answers t w.low_within))
        ];
        led = led;
      }

  -- what was answered leads to all that are submitted behind
  times_lead : (begun : TxnId → ℕ) (answers : List TxnId) (low : ℕ) (es : List Entry) → IsWalked begun answers low → AreEdges (time_walk begun answers low es)
      → (u t : TxnId) → (Has u answers × WasSubmitted es t) ⊎ IsAnsweredBefore es u t → Reaches E u t
  times_lead begun answers low [] w edges u t (inl h) = elim h.1.2 [ ]
  times_lead begun answers low [] w edges u t (inr h) = elim h [ ]
  times_lead begun answers low (Submitted x proc args ∷ es) w edges u t h =
      let here : AreEdges (map (pair_of x) (drop low answers)) = λ p i. edges p (has_left p (map (pair_of x) (drop low answers)) (time_walk (opened begun x (length answers)) answers low es) i) in
      let behind : AreEdges (time_walk (opened begun x (length answers)) answers low es) =
      λ p i. edges p (has_right p (map (pair_of x) (drop low answers)) (time_walk (opened begun x (length answers)) answers low es) i) in
      go here (times_lead (opened begun x (length answers)) answers low es (submitted_walks begun answers low x w here) behind u t) h
    where
      go : AreEdges (map (pair_of x) (drop low answers)) → ((Has u answers × WasSubmitted es t) ⊎ IsAnsweredBefore es u t → Reaches E u t)
          → (Has u answers × WasSubmitted (Submitted x proc args ∷ es) t) ⊎ IsAnsweredBefore (Submitted x proc args ∷ es) u t → Reaches E u t
      go here rest (inl (k, (q, b, inl e))) = let same : t ≡ x = cc in subst (λ y. Reaches E u y) (sym same) (to_submitted answers low x u here (w.ahead u k))
      go here rest (inl (k, (q, b, inr i))) = rest (inl (k, (q, b, i)))
      go here rest (inr (inl (r, e, s))) = absurd (cc)
      go here rest (inr (inr i)) = rest (inr i)
  times_lead begun answers low (Answered x reply ∷ es) w edges u t h =
      go (times_lead begun (answers ++ x ∷ []) (greater low (begun x)) es (answered_walks begun answers low x w) edges u t) h
    where
      go : ((Has u (answers ++ x ∷ []) × WasSubmitted es t) ⊎ IsAnsweredBefore es u t → Reaches E u t)
          → (Has u answers × WasSubmitted (Answered x reply ∷ es) t) ⊎ IsAnsweredBefore (Answered x reply ∷ es) u t → Reaches E u t
      go rest (inl (k, (q, b, inl e))) = absurd (cc)
      go rest (inl (k, (q, b, inr i))) = rest (inl (has_left u answers (x ∷ []) k, (q, b, i)))
      go rest (inr (inl (r, e, s))) = let same : x ≡ u = cc in rest (inl (has_right u answers (x ∷ []) (inl (sym same)), s))
      go rest (inr (inr i)) = rest (inr i)

  pub all_times_lead : (es : List Entry) → AreEdges (time_walk (λ t. 0) [] 0 es) → (u t : TxnId) → IsAnsweredBefore es u t → Reaches E u t
  all_times_lead es edges u t h =
      times_lead (λ t. 0) [] 0 es
      (record { low_within = omega arith; begun_within = λ v. omega arith; ahead = λ v k. elim k [ ]; led = λ v x k. elim k [ ] })
      edges u t (inr h)

-- ---- and each is of an answer that stands before a submission

pub submitted_behind : (x : Entry) (es : List Entry) (t : TxnId) → WasSubmitted es t → WasSubmitted (x ∷ es) t
submitted_behind x es t s = (s.0, s.1, inr s.2)

pub from_times : (begun : TxnId → ℕ) (answers : List TxnId) (low : ℕ) (es : List Entry) (p : Pair) → Has p (time_walk begun answers low es)
    → (Has p.earlier answers × WasSubmitted es p.later) ⊎ IsAnsweredBefore es p.earlier p.later
from_times begun answers low [] p h = elim h [ ]
from_times begun answers low (Submitted x proc args ∷ es) p h =
    elim (has_append p (map (pair_of x) (drop low answers)) (time_walk (opened begun x (length answers)) answers low es) h) [
      | inl i ↦ (
          let r = from_has_map (pair_of x) p (drop low answers) i in
          let e : p.earlier ≡ r.0 = ap (λ (q : Pair). q.earlier) r.2 in
          let l : p.later ≡ x = ap (λ (q : Pair). q.later) r.2 in
          inl (subst (λ y. Has y answers) (sym e) (has_back low answers r.0 r.1), (proc, args, inl (λ j. Submitted (l j) proc args))))
      | inr i ↦ elim (from_times (opened begun x (length answers)) answers low es p i) [
        | inl k ↦ inl (k.0, submitted_behind (Submitted x proc args) es p.later k.1)
        | inr k ↦ inr (inr k)
      ]
    ]
from_times begun answers low (Answered x reply ∷ es) p h =
    elim (from_times begun (answers ++ x ∷ []) (greater low (begun x)) es p h) [
      | inl k ↦ elim (has_more p.earlier x answers k.0) [
        | inl i ↦ inl (i, submitted_behind (Answered x reply) es p.later k.1)
        | inr i ↦ inr (inl (reply, (λ j. Answered (sym i j) reply), k.1))
      ]
      | inr k ↦ inr (inr k)
    ]
