-- What one shard took, in its order
use Rattle.std.proofs.Common.{◌≡◌, ℕ, zero, suc, ◌+◌, ◌<◌, ◌≤◌, List, ◌++◌, not, true, refl, sym, ap, subst, arith, ◌⊎◌, inl, inr}
use Rattle.std.proofs.lemmas.Bool.{cases_lt, cases_order, not-true, not_from_false}
use Rattle.roc_sequence.specs.Places.{place_of, IsListed, IsListedBefore, is_listed}
use Rattle.roc_sequence.proofs.Places.{listed_by_before, same_place, listed_false, unlisted_test, listed_or_not}
use Rattle.roc_sequence.proofs.Appended.{listed_front, listed_behind, listed_either, before_front, from_before_front, before_behind, from_before_behind, before_new, NoneTwice-append}
use Rattle.roc_sequence.proofs.Filtered.{listed_filter, from_listed_filter, before_filter, from_before_filter, NoneTwice-filter}
use Rattle.roc_base.specs.declared.id.TxnId.{TxnId}
use Rattle.roc_base.specs.TxnId.{is_txn}
use Rattle.roc_base.specs.Equalities.{is_txn-true, is_txn-same}
use Rattle.roc_depgraph.proofs.Chains.{closed_chain}
use Rattle.roc_component.specs.Components.{Mates}
use Rattle.roc_component.proofs.Relations.{mates_sym, mates_trans}
use Rattle.roc_law_log.specs.Taking.{RespectsPrecedence, IsWholeOrder, IsShardOrder}
use Rattle.roc_law_log.specs.Steps.{new_in}
use Rattle.roc_law_log.proofs.Components.{inside_same, inside_by, chain_mates}
use Rattle.roc_law_log.proofs.Whole.{mate_in, pick_same, mates_to, closed_by, mates_back}

module _ (E I : TxnId → TxnId → Type 0) (here waived : TxnId → Type 0) (mates_waived : (a b : TxnId) → Mates E a b → waived a → waived b) where
  -- mates that are not waived come together
  pub up_mates : (L : List TxnId) → ((u t : TxnId) → IsListed is_txn L t → E u t → IsListed is_txn L u ⊎ waived u) → (t c : TxnId) → IsListed is_txn L t → ¬ waived t → Mates E t c → IsListed is_txn L c
  up_mates L closed t c h n (inl e) = subst (IsListed is_txn L) e h
  up_mates L closed t c h n (inr p) =
      closed_chain (λ a b. E a b × Mates E t a) (IsListed is_txn L)
      (λ u v k e. elim (closed u v k e.0) [ inl j ↦ j | inr z ↦ absurd (n (mates_waived u t (mates_sym E t u e.1) z)) ])
      c t h (chain_mates E t c t p.1 (inl refl) (inr p.0))

  module _ (L ts : List TxnId) (l : IsShardOrder E I here waived L) (apart : (t : TxnId) → IsListed is_txn ts t → ¬ IsListed is_txn L t)
      (closed : (u t : TxnId) → IsListed is_txn ts t → E u t → IsListed is_txn L u ⊎ (IsListed is_txn ts u ⊎ waived u)) where
    -- a new one's mates are new, unless all are waived
    pub mate_new : (t c : TxnId) → IsListed is_txn ts t → ¬ waived t → Mates E t c → IsListed is_txn ts c
    mate_new t c h n (inl e) = subst (IsListed is_txn ts) e h
    mate_new t c h n (inr p) =
        closed_chain (λ a b. E a b × Mates E t a) (IsListed is_txn ts)
        (λ u v k e. elim (closed u v k e.0) [
          | inl j ↦ absurd (apart t h (up_mates L l.closed u t j (λ z. n (mates_waived u t (mates_sym E t u e.1) z)) (mates_sym E t u e.1)))
          | inr j ↦ elim j [ inl x ↦ x | inr z ↦ absurd (n (mates_waived u t (mates_sym E t u e.1) z)) ]
        ])
        c t h (chain_mates E t c t p.1 (inl refl) (inr p.0))

    -- a shard that goes on
    module _ (waived_here : (t : TxnId) → waived t → here t → IsListed is_txn L t) (o : RespectsPrecedence E I waived ts) where
      open_here : (t : TxnId) → IsListed is_txn ts t → here t → ¬ waived t
      open_here t h k z = apart t h (waived_here t z k)

      pub extend_here : IsShardOrder E I here waived (L ++ ts)
      extend_here =
          record {
            once = NoneTwice-append is_txn is_txn-same L ts l.once o.once apart;
            closed = λ u t h e. elim (listed_either is_txn L ts t h) [
              | inl j ↦ elim (l.closed u t j e) [ inl k ↦ inl (listed_front is_txn L ts u k) | inr z ↦ inr z ]
              | inr j ↦ elim (closed u t j.1 e) [ inl k ↦ inl (listed_front is_txn L ts u k) | inr k ↦ elim k [ inl x ↦ inl (listed_behind is_txn L ts u x) | inr z ↦ inr z ] ]
            ];
            earlier = λ u t h k e n. elim (listed_either is_txn L ts t h) [
              | inl j ↦ before_front is_txn L ts u t (l.earlier u t j k e n)
              | inr j ↦ elim (closed u t j.1 e) [
                | inl m ↦ before_new is_txn L ts u t m j.0
                | inr m ↦ elim m [
                  | inl x ↦ before_behind is_txn L ts u t (apart u x) j.0 (o.earlier u t x j.1 e n (open_here u x k))
                  | inr z ↦ before_new is_txn L ts u t (waived_here u z k) j.0
                ]
              ]
            ];
            whole = λ t c h k m. elim (listed_either is_txn L ts t h) [
              | inl j ↦ listed_front is_txn L ts c (l.whole t c j k m)
              | inr j ↦ listed_behind is_txn L ts c (mate_new t c j.1 (open_here t j.1 k) m)
            ];
            inside = λ t c h k m. elim (listed_either is_txn L ts t h) [
              | inl j ↦
                  (let jc = l.whole t c j k m in
                  inside_by E I (λ u. IsListedBefore is_txn L u c) (λ u. IsListedBefore is_txn (L ++ ts) u c) c (λ z m. before_front is_txn L ts z c) (λ z m. from_before_front is_txn L ts z c jc) (l.inside t c j k m))
              | inr j ↦
                  (let n = open_here t j.1 k in
                  let jc = mate_new t c j.1 n m in
                  let nc : ¬ waived c = λ z. n (mates_waived c t (mates_sym E t c m) z) in
                  inside_by E I (λ u. IsListedBefore is_txn ts u c) (λ u. IsListedBefore is_txn (L ++ ts) u c) c
                  (λ z m. before_behind is_txn L ts z c (apart z (mate_new c z jc nc m)) (apart c jc)) (λ z m. from_before_behind is_txn L ts z c (apart z (mate_new c z jc nc m)) (apart c jc)) (o.inside c jc nc))
            ];
          }

-- those that no shard took before
module _ (E I : TxnId → TxnId → Type 0) (waived : TxnId → Type 0) (L O ts : List TxnId) (o : IsWholeOrder E I O)
    (into : (t : TxnId) → IsListed is_txn L t → IsListed is_txn O t) (waived_in : (t : TxnId) → waived t → IsListed is_txn O t)
    (closed : (u t : TxnId) → IsListed is_txn ts t → E u t → IsListed is_txn L u ⊎ (IsListed is_txn ts u ⊎ waived u)) (b : RespectsPrecedence E I waived ts) where
  passes : (t : TxnId) → ¬ IsListed is_txn O t → not (is_listed is_txn O t) ≡ true
  passes t n = not_from_false (is_listed is_txn O t) (unlisted_test is_txn O t n)

  pub in_fresh : (t : TxnId) → IsListed is_txn ts t → ¬ IsListed is_txn O t → IsListed is_txn (new_in O ts) t
  in_fresh t h n = listed_filter is_txn is_txn-true (λ u. not (is_listed is_txn O u)) ts t (passes t n) h

  pub from_fresh : (t : TxnId) → IsListed is_txn (new_in O ts) t → (¬ IsListed is_txn O t) × IsListed is_txn ts t
  from_fresh t h = let f = from_listed_filter is_txn is_txn-true (λ u. not (is_listed is_txn O u)) ts t h in (listed_false is_txn O t (not-true (is_listed is_txn O t) f.0), f.1)

  pub closed_fresh : (u t : TxnId) → IsListed is_txn (new_in O ts) t → E u t → IsListed is_txn O u ⊎ IsListed is_txn (new_in O ts) u
  closed_fresh u t h e = elim (listed_or_not is_txn O u) [
    | inl k ↦ inl k
    | inr n ↦ elim (closed u t (from_fresh t h).1 e) [
      | inl j ↦ inl (into u j)
      | inr j ↦ elim j [ inl x ↦ inr (in_fresh u x n) | inr z ↦ inl (waived_in u z) ]
    ]
  ]

  before_fresh : (u t : TxnId) → ¬ IsListed is_txn O u → ¬ IsListed is_txn O t → IsListedBefore is_txn ts u t → IsListedBefore is_txn (new_in O ts) u t
  before_fresh u t n m k = before_filter is_txn is_txn-true (λ v. not (is_listed is_txn O v)) ts u t (passes u n) (passes t m) k

  from_before_fresh : (u t : TxnId) → ¬ IsListed is_txn O u → ¬ IsListed is_txn O t → IsListedBefore is_txn (new_in O ts) u t → IsListedBefore is_txn ts u t
  from_before_fresh u t n m k = from_before_filter is_txn is_txn-true (λ v. not (is_listed is_txn O v)) ts u t (passes u n) (passes t m) k

  -- a mate of one that is not in O is not in O
  away : (t z : TxnId) → ¬ IsListed is_txn O t → Mates E t z → ¬ IsListed is_txn O z
  away t z n m i = n (mate_in E I O o z t i (mates_sym E t z m))

  pub fresh_order : RespectsPrecedence E I (λ t. ⊥) (new_in O ts)
  fresh_order =
      record {
        once = NoneTwice-filter is_txn is_txn-true (λ u. not (is_listed is_txn O u)) ts b.once;
        earlier = λ u t h k e n no. let x = from_fresh u h in let y = from_fresh t k in before_fresh u t x.0 y.0 (b.earlier u t x.1 y.1 e n (λ z. x.0 (waived_in u z)));
        together = λ a c t h m n no k.
            let x = from_fresh a (listed_by_before is_txn (new_in O ts) a t k) in
            let y = from_fresh t h in
            before_fresh c t (away a c x.0 m) y.0 (b.together a c t y.1 m n (λ z. x.0 (waived_in a z)) (from_before_fresh a t x.0 y.0 k));
        inside = λ t h no.
            let y = from_fresh t h in
            inside_by E I (λ u. IsListedBefore is_txn ts u t) (λ u. IsListedBefore is_txn (new_in O ts) u t) t
            (λ z m. before_fresh z t (away t z y.0 m) y.0) (λ z m. from_before_fresh z t (away t z y.0 m) y.0) (b.inside t y.1 (λ z. y.0 (waived_in t z)));
      }

-- Of two that have groups here and precede one another, the first here is the first in M
module _ (E I : TxnId → TxnId → Type 0) (here waived : TxnId → Type 0) (L M : List TxnId) (l : IsShardOrder E I here waived L) (m : IsWholeOrder E I M) where
  alike_below : (t : TxnId) → IsListed is_txn L t → here t → (n : ℕ) (a b : TxnId) → place_of (is_txn a) L + place_of (is_txn b) M < n → Mates E t a → Mates E a b
      → IsListed is_txn M b → IsListedBefore is_txn L a b → IsListedBefore is_txn M a b
  alike_below t ht kt zero a b s r e k o = absurd (omega arith)
  alike_below t ht kt (suc n) a b s r e k o =
      elim (cases_lt (place_of (is_txn a) M) (place_of (is_txn b) M)) [
        | inl w ↦ w
        | inr w ↦
            (let ih = alike_below t ht kt n in
            let ha : IsListed is_txn L a = l.whole t a ht kt r in
            let x = pick_same E I L M a b e (λ z. absurd (omega arith)) (λ z. absurd (omega arith))
            (λ c p q. ih c b (omega arith) (mates_trans E t a c r p) (mates_trans E c a b (mates_sym E a c p) e) k (omega arith))
            (λ c p q. elim (cases_order (place_of (is_txn c) L) (place_of (is_txn a) L)) [
              | inl z ↦ (let f = ap (λ x. place_of (is_txn x) M) (same_place is_txn is_txn-true L a c ha (sym z)) in absurd (omega arith))
              | inr (inl z) ↦ z
              | inr (inr z) ↦ (let g = ih a c (omega arith) r p (mate_in E I M m b c k (mates_trans E b a c (mates_sym E a b e) p)) z in absurd (omega arith))
            ])
            (l.inside t a ht kt r) (m.inside b k) in
            let f = ap (λ x. place_of (is_txn x) L) x in
            absurd (omega arith))
      ]

  -- and so are mates of one that has a group here
  pub alike_here : (t : TxnId) → IsListed is_txn L t → here t → (a b : TxnId) → Mates E t a → Mates E t b → IsListed is_txn M b → IsListedBefore is_txn L a b → IsListedBefore is_txn M a b
  alike_here t ht kt a b ma mb k o = alike_below t ht kt (suc (place_of (is_txn a) L + place_of (is_txn b) M)) a b (omega arith) ma (mates_trans E a t b (mates_sym E t a ma) mb) k o

  pub order_here : (a b : TxnId) → E a b ⊎ E b a → here a → here b → IsListed is_txn M a → IsListed is_txn M b → IsListed is_txn L b → IsListedBefore is_txn L a b → IsListedBefore is_txn M a b
  order_here a b e ka kb ha hb h o =
      elim (cases_lt (place_of (is_txn a) M) (place_of (is_txn b) M)) [
        | inl w ↦ w
        | inr w ↦ absurd (not_mates e w (λ x. let y = alike_below b h kb (suc (place_of (is_txn a) L + place_of (is_txn b) M)) a b (omega arith) (mates_sym E a b x) x hb o in absurd (omega arith)))
      ]
    where
      not_mates : E a b ⊎ E b a → place_of (is_txn b) M ≤ place_of (is_txn a) M → ¬ ¬ Mates E a b
      not_mates (inl p) w x = let y = m.earlier a b hb p (λ z. x (mates_sym E b a z)) in absurd (omega arith)
      not_mates (inr p) w x = let y = l.earlier b a (listed_by_before is_txn L a b o) kb p x in absurd (omega arith)

-- then the first in M is the first here
pub turned_back : (L M : List TxnId) (a b : TxnId) → IsListed is_txn L a → (IsListedBefore is_txn L b a → IsListedBefore is_txn M b a) → IsListedBefore is_txn M a b → IsListedBefore is_txn L a b
turned_back L M a b h f o =
    elim (cases_order (place_of (is_txn a) L) (place_of (is_txn b) L)) [
      | inl e ↦ (let z = ap (λ x. place_of (is_txn x) M) (same_place is_txn is_txn-true L a b h e) in absurd (omega arith))
      | inr (inl l) ↦ l
      | inr (inr l) ↦ (let z = f l in absurd (omega arith))
    ]

-- Other edges that are the same into O
module _ (E F I J : TxnId → TxnId → Type 0) (O : List TxnId) (o : IsWholeOrder E I O) (ef : (u t : TxnId) → IsListed is_txn O t → E u t → F u t)
    (fe : (u t : TxnId) → IsListed is_txn O t → F u t → E u t) (ij : (u t : TxnId) → IsListed is_txn O t → I u t → J u t)
    (ji : (u t : TxnId) → IsListed is_txn O t → J u t → I u t) where
  to : (t u : TxnId) → IsListed is_txn O t → Mates E t u → Mates F t u
  to t u h m = mates_to E F I J O o ef fe ij ji t u h m

  from : (t u : TxnId) → IsListed is_txn O t → Mates F t u → Mates E t u
  from t u h m = mates_back E F I J O o ef fe ij ji t u h m

  pub here_same : (here here2 waived waived2 : TxnId → Type 0) → ((u : TxnId) → IsListed is_txn O u → here2 u → here u) → ((u : TxnId) → waived u → waived2 u)
      → (L : List TxnId) → ((t : TxnId) → IsListed is_txn L t → IsListed is_txn O t) → IsShardOrder E I here waived L → IsShardOrder F J here2 waived2 L
  here_same here here2 waived waived2 back grown L into l =
      record {
        once = l.once;
        closed = λ u t h e. elim (l.closed u t h (fe u t (into t h) e)) [ inl k ↦ inl k | inr z ↦ inr (grown u z) ];
        earlier = λ u t h k e n. l.earlier u t h (back u (closed_by E F I J O o ef fe ij ji u t (into t h) e) k) (fe u t (into t h) e) (λ m. n (to t u (into t h) m));
        whole = λ t c h k m. l.whole t c h (back t (into t h) k) (from t c (into t h) m);
        inside = λ t c h k m.
            let m2 = from t c (into t h) m in
            let kc = into c (l.whole t c h (back t (into t h) k) m2) in
            inside_same E F I J (λ u. IsListedBefore is_txn L u c) (λ u. IsListedBefore is_txn L u c) c
            (λ z m. to c z kc m) (λ z m. from c z kc m) (λ z m b. b) (λ z m b. b)
            (λ p z m n i. ij p z (mate_in E I O o c z kc n) i) (λ p z m n i. ji p z (mate_in E I O o c z kc n) i) (l.inside t c h (back t (into t h) k) m2);
      }
