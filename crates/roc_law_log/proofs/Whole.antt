-- Lists of transactions with all that precedes them
use Rattle.std.proofs.Common.{◌≡◌, ℕ, zero, suc, ◌+◌, ◌<◌, ◌≤◌, List, ◌++◌, sym, ap, subst, arith, ◌⊎◌, inl, inr}
use Rattle.std.proofs.lemmas.Bool.{cases_lt, cases_order}
use Rattle.roc_sequence.specs.Places.{place_of, IsListed, IsListedBefore}
use Rattle.roc_sequence.proofs.Places.{listed_by_before, same_place}
use Rattle.roc_sequence.proofs.Appended.{listed_front, listed_behind, listed_either, before_front, from_before_front, before_behind, from_before_behind, before_new, NoneTwice-append}
use Rattle.roc_base.specs.declared.id.TxnId.{TxnId}
use Rattle.roc_base.specs.TxnId.{is_txn}
use Rattle.roc_base.specs.Equalities.{is_txn-true, is_txn-same}
use Rattle.roc_depgraph.specs.Reach.{Reaches, direct, through}
use Rattle.roc_depgraph.proofs.Chains.{closed_chain}
use Rattle.roc_component.specs.Components.{Mates, IsFree, IsNextInside}
use Rattle.roc_component.proofs.Relations.{mates_sym, mates_trans}
use Rattle.roc_law_log.specs.Taking.{RespectsPrecedence, IsWholeOrder}
use Rattle.roc_law_log.proofs.Components.{neither_below, other_mates, inside_same, inside_by}

module _ (E I : TxnId → TxnId → Type 0) where
  pub mate_in : (L : List TxnId) → IsWholeOrder E I L → (a b : TxnId) → IsListed is_txn L a → Mates E a b → IsListed is_txn L b
  mate_in L k a b h (inl e) = subst (IsListed is_txn L) e h
  mate_in L k a b h (inr p) = closed_chain E (IsListed is_txn L) k.closed b a h p.1

  -- the picks of two lists, at places where all that was taken of the component is the same
  pub pick_same : (L M : List TxnId) (a b : TxnId) → Mates E a b → ¬ IsListedBefore is_txn L b a → ¬ IsListedBefore is_txn M a b
      → ((c : TxnId) → Mates E a c → IsListedBefore is_txn L c a → IsListedBefore is_txn M c b)
      → ((c : TxnId) → Mates E a c → IsListedBefore is_txn M c b → IsListedBefore is_txn L c a)
      → IsNextInside E I (λ u. IsListedBefore is_txn L u a) a → IsNextInside E I (λ u. IsListedBefore is_txn M u b) b → a ≡ b
  pick_same L M a b m n o lm ml = go
    where
      to_a : (z : TxnId) → IsFree E I (λ u. IsListedBefore is_txn M u b) b z → IsFree E I (λ u. IsListedBefore is_txn L u a) a z
      to_a z f c k i = ml c k (f c (mates_trans E b a c (mates_sym E a b m) k) i)

      to_b : (z : TxnId) → IsFree E I (λ u. IsListedBefore is_txn L u a) a z → IsFree E I (λ u. IsListedBefore is_txn M u b) b z
      to_b z f c k i = let h = mates_trans E a b c m k in lm c h (f c h i)

      back : Mates E b a
      back = mates_sym E a b m

      go : IsNextInside E I (λ u. IsListedBefore is_txn L u a) a → IsNextInside E I (λ u. IsListedBefore is_txn M u b) b → a ≡ b
      go (inl p) (inl q) = neither_below a b (p.1 b m n (to_a b q.0)) (q.1 a back o (to_b a p.0))
      go (inl p) (inr q) = absurd (q.0 a back o (to_b a p.0))
      go (inr p) (inl q) = absurd (p.0 b m n (to_a b q.0))
      go (inr p) (inr q) = neither_below a b (p.1 b m n tt) (q.1 a back o tt)

  -- an ancestor that is no mate was taken first
  pub ancestor_first : (L : List TxnId) → IsWholeOrder E I L → (u t : TxnId) → IsListed is_txn L t → Reaches E u t → ¬ Mates E t u → IsListedBefore is_txn L u t
  ancestor_first L l u _ h (direct {t = t} e) n = l.earlier u t h e n
  ancestor_first L l u _ h (through {s = v} {t = t} p e) n =
      elim (cases_lt (place_of (is_txn u) L) (place_of (is_txn t) L)) [
        | inl k ↦ k
        | inr k ↦ absurd (go k (ancestor_first L l u v (l.closed v t h e) p))
      ]
    where
      go : place_of (is_txn t) L ≤ place_of (is_txn u) L → (¬ Mates E v u → IsListedBefore is_txn L u v) → ⊥
      go k ih =
          let hu = closed_chain E (IsListed is_txn L) l.closed u v (l.closed v t h e) p in
          let n1 : ¬ Mates E t v = λ m.
          let b = ih (λ q. n (mates_trans E t v u m q)) in
          elim (cases_order (place_of (is_txn t) L) (place_of (is_txn u) L)) [
            | inl z ↦ n (inl (same_place is_txn is_txn-true L t u h z))
            | inr (inl z) ↦ (let c = l.together t v u hu m n z in absurd (omega arith))
            | inr (inr z) ↦ absurd (omega arith)
          ] in
          let b = l.earlier v t h e n1 in
          let n2 : ¬ Mates E v u = λ m. let c = l.together v u t h m (λ q. n1 (mates_sym E v t q)) b in absurd (omega arith) in
          let c = ih n2 in
          absurd (omega arith)

  -- mates stand alike in two lists
  module _ (L M : List TxnId) (l : IsWholeOrder E I L) (m : IsWholeOrder E I M) where
    alike_below : (n : ℕ) (a b : TxnId) → place_of (is_txn a) L + place_of (is_txn b) M < n → Mates E a b → IsListed is_txn L b → IsListed is_txn M b → IsListedBefore is_txn L a b → IsListedBefore is_txn M a b
    alike_below zero a b s e h k o = absurd (omega arith)
    alike_below (suc n) a b s e h k o =
        elim (cases_lt (place_of (is_txn a) M) (place_of (is_txn b) M)) [
          | inl w ↦ w
          | inr w ↦
              (let ih = alike_below n in
              let ha : IsListed is_txn L a = listed_by_before is_txn L a b o in
              let x = pick_same L M a b e (λ z. absurd (omega arith)) (λ z. absurd (omega arith))
              (λ c p q. ih c b (omega arith) (mates_trans E c a b (mates_sym E a c p) e) h k (omega arith))
              (λ c p q. elim (cases_order (place_of (is_txn c) L) (place_of (is_txn a) L)) [
                | inl z ↦ (let f = ap (λ x. place_of (is_txn x) M) (same_place is_txn is_txn-true L a c ha (sym z)) in absurd (omega arith))
                | inr (inl z) ↦ z
                | inr (inr z) ↦ (let g = ih a c (omega arith) p (mate_in L l a c ha p) (mate_in M m b c k (mates_trans E b a c (mates_sym E a b e) p)) z in absurd (omega arith))
              ])
              (l.inside a ha) (m.inside b k) in
              let f = ap (λ x. place_of (is_txn x) L) x in
              absurd (omega arith))
        ]

  -- where immediate edges have no cycle, an immediate predecessor is taken first
  module _ (rank : TxnId → ℕ → Type 0) (rises : (p z : TxnId) → I p z → (n : ℕ) × (m : ℕ) × rank p n × rank z m × (n < m)) (one_rank : (z : TxnId) (n m : ℕ) → rank z n → rank z m → n ≡ m) where
    some_free : (mate taken : TxnId → Type 0) → ((z : TxnId) → taken z ⊎ (¬ taken z)) → ((z : TxnId) → mate z → ¬ taken z → ¬ ((p : TxnId) → mate p → I p z → taken p))
        → (k n : ℕ) (z : TxnId) → rank z n → n < k → mate z → ¬ taken z → ⊥
    some_free mate taken either none zero n z r l m h = absurd (omega arith)
    some_free mate taken either none (suc k) n z r l m h =
        none z m h (λ p o i. elim (either p) [
          | inl t ↦ t
          | inr u ↦
              (let q = rises p z i in
              let e = one_rank z n q.1 r q.3 in
              let f = q.4 in
              absurd (some_free mate taken either none k q.0 p q.2 (omega arith) o u))
        ])

    pub now_first : (L : List TxnId) → IsWholeOrder E I L → (a b : TxnId) → I a b → E a b → IsListed is_txn L b → IsListedBefore is_txn L a b
    now_first L l a b i e h =
        elim (cases_lt (place_of (is_txn a) L) (place_of (is_txn b) L)) [
          | inl w ↦ w
          | inr w ↦
              absurd ((λ (no : ¬ ¬ Mates E b a). no (λ m. go w m (l.inside b h)))
              (λ n. let x = l.earlier a b h e n in absurd (omega arith)))
        ]
      where
        go : place_of (is_txn b) L ≤ place_of (is_txn a) L → Mates E b a → IsNextInside E I (λ u. IsListedBefore is_txn L u b) b → ⊥
        go w m (inl p) = let x = p.0 a m i in omega arith
        go w m (inr p) =
            let q = rises a b i in
            some_free (Mates E b) (λ u. IsListedBefore is_txn L u b)
            (λ z. elim (cases_lt (place_of (is_txn z) L) (place_of (is_txn b) L)) [ inl t ↦ inl t | inr t ↦ inr (λ u. absurd (omega arith)) ])
            p.0 (suc q.0) q.0 a q.2 (omega arith) m (λ u. absurd (omega arith))

  -- a list that goes on
  module _ (L ts : List TxnId) (l : IsWholeOrder E I L) (apart : (t : TxnId) → IsListed is_txn ts t → ¬ IsListed is_txn L t)
      (closed : (u t : TxnId) → IsListed is_txn ts t → E u t → IsListed is_txn L u ⊎ IsListed is_txn ts u) where
    chain_new : (u t : TxnId) → IsListed is_txn ts t → Reaches E u t → IsListed is_txn L u ⊎ IsListed is_txn ts u
    chain_new u _ k (direct {t = t} e) = closed u t k e
    chain_new u _ k (through {s = v} {t = t} p e) = elim (closed v t k e) [ inl j ↦ inl (closed_chain E (IsListed is_txn L) l.closed u v j p) | inr j ↦ chain_new u v j p ]

    mate_new : (t z : TxnId) → IsListed is_txn ts t → Mates E t z → IsListed is_txn ts z
    mate_new t z h (inl e) = subst (IsListed is_txn ts) e h
    mate_new t z h (inr p) = elim (chain_new z t h p.1) [ inl j ↦ absurd (apart t h (closed_chain E (IsListed is_txn L) l.closed t z j p.0)) | inr j ↦ j ]

    pub extend : RespectsPrecedence E I (λ t. ⊥) ts → IsWholeOrder E I (L ++ ts)
    extend b =
        record {
          once = NoneTwice-append is_txn is_txn-same L ts l.once b.once apart;
          closed = λ u t h e. elim (listed_either is_txn L ts t h) [
            | inl j ↦ listed_front is_txn L ts u (l.closed u t j e)
            | inr j ↦ elim (closed u t j.1 e) [ inl k ↦ listed_front is_txn L ts u k | inr k ↦ listed_behind is_txn L ts u k ]
          ];
          earlier = λ u t h e n. elim (listed_either is_txn L ts t h) [
            | inl j ↦ before_front is_txn L ts u t (l.earlier u t j e n)
            | inr j ↦ elim (closed u t j.1 e) [
              | inl k ↦ before_new is_txn L ts u t k j.0
              | inr k ↦ before_behind is_txn L ts u t (apart u k) j.0 (b.earlier u t k j.1 e n (λ z. z))
            ]
          ];
          together = λ a c t h m n k. elim (listed_either is_txn L ts t h) [
            | inl j ↦ before_front is_txn L ts c t (l.together a c t j m n (from_before_front is_txn L ts a t j k))
            | inr j ↦ elim (listed_either is_txn L ts a (listed_by_before is_txn (L ++ ts) a t k)) [
              | inl q ↦ before_new is_txn L ts c t (mate_in L l a c q m) j.0
              | inr q ↦ before_behind is_txn L ts c t (apart c (mate_new a c q.1 m)) j.0 (b.together a c t j.1 m n (λ z. z) (from_before_behind is_txn L ts a t q.0 j.0 k))
            ]
          ];
          inside = λ t h. elim (listed_either is_txn L ts t h) [
            | inl j ↦ inside_by E I (λ u. IsListedBefore is_txn L u t) (λ u. IsListedBefore is_txn (L ++ ts) u t) t (λ z m. before_front is_txn L ts z t) (λ z m. from_before_front is_txn L ts z t j) (l.inside t j)
            | inr j ↦
                inside_by E I (λ u. IsListedBefore is_txn ts u t) (λ u. IsListedBefore is_txn (L ++ ts) u t) t
                (λ z m. before_behind is_txn L ts z t (apart z (mate_new t z j.1 m)) j.0) (λ z m. from_before_behind is_txn L ts z t (apart z (mate_new t z j.1 m)) j.0) (b.inside t j.1 (λ z. z))
          ];
        }

-- Other edges that are the same into the list
module _ (E F I J : TxnId → TxnId → Type 0) (O : List TxnId) (o : IsWholeOrder E I O) (ef : (u t : TxnId) → IsListed is_txn O t → E u t → F u t)
    (fe : (u t : TxnId) → IsListed is_txn O t → F u t → E u t) (ij : (u t : TxnId) → IsListed is_txn O t → I u t → J u t)
    (ji : (u t : TxnId) → IsListed is_txn O t → J u t → I u t) where
  pub mates_to : (t u : TxnId) → IsListed is_txn O t → Mates E t u → Mates F t u
  mates_to t u h m = other_mates E F (IsListed is_txn O) o.closed ef t u (mate_in E I O o t u h m) h m

  pub closed_by : (u t : TxnId) → IsListed is_txn O t → F u t → IsListed is_txn O u
  closed_by u t h e = o.closed u t h (fe u t h e)

  pub mates_back : (t u : TxnId) → IsListed is_txn O t → Mates F t u → Mates E t u
  mates_back t u h (inl e) = inl e
  mates_back t u h (inr p) = other_mates F E (IsListed is_txn O) closed_by fe t u (closed_chain F (IsListed is_txn O) closed_by u t h p.1) h (inr p)

  pub whole_same : IsWholeOrder F J O
  whole_same =
      record {
        once = o.once;
        closed = closed_by;
        earlier = λ u t h e n. o.earlier u t h (fe u t h e) (λ m. n (mates_to t u h m));
        together = λ a b t h m n k.
            let j = listed_by_before is_txn O a t k in
            o.together a b t h (mates_back a b j m) (λ q. n (mates_to a t j q)) k;
        inside = λ t h. inside_same E F I J (λ u. IsListedBefore is_txn O u t) (λ u. IsListedBefore is_txn O u t) t
            (λ z m. mates_to t z h m) (λ z m. mates_back t z h m) (λ z m b. b) (λ z m b. b)
            (λ p z m n i. ij p z (mate_in E I O o t z h n) i) (λ p z m n i. ji p z (mate_in E I O o t z h n) i) (o.inside t h);
      }
