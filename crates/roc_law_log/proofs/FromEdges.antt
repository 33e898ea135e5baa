-- From component order by edges that somebody follows to the order in which a shard takes what it had not decided
use Rattle.std.proofs.Common.{◌≡◌, not, true, List, refl, arith, ◌⊎◌, inl, inr}
use Rattle.std.proofs.lemmas.Bool.{not-true, not_from_false, cases_lt}
use Rattle.roc_sequence.specs.Places.{place_of, IsListed, IsListedBefore, is_listed}
use Rattle.roc_sequence.proofs.Places.{listed_by_before, listed_false, unlisted_test}
use Rattle.roc_sequence.proofs.Filtered.{from_listed_filter, before_filter, from_before_filter, NoneTwice-filter}
use Rattle.roc_base.specs.declared.id.TxnId.{TxnId}
use Rattle.roc_base.specs.TxnId.{is_txn}
use Rattle.roc_base.specs.Equalities.{is_txn-true}
use Rattle.roc_depgraph.specs.Reach.{Reaches, direct, through}
use Rattle.roc_component.specs.Components.{Mates, among, IsComponentOrder}
use Rattle.roc_component.proofs.Relations.{mates_sym, mates_weaker}
use Rattle.roc_law_log.specs.Taking.{RespectsPrecedence, IsShardOrder}
use Rattle.roc_law_log.specs.Steps.{new_in}
use Rattle.roc_law_log.proofs.Components.{inside_same, chain_mates}
use Rattle.roc_law_log.proofs.Shards.{mate_new}

-- F and J are the edges that are followed
module _ (E I F J : TxnId → TxnId → Type 0) (here waived : TxnId → Type 0) (mates_waived : (a b : TxnId) → Mates E a b → waived a → waived b) (L M all : List TxnId) (l : IsShardOrder E I here waived L)
    (to : (u t : TxnId) → F u t → E u t) (to_now : (u t : TxnId) → J u t → I u t)
    (from : (u t : TxnId) → IsListed is_txn all t → E u t → F u t ⊎ waived u) (from_now : (u t : TxnId) → IsListed is_txn all t → I u t → J u t ⊎ waived u)
    (closed : (u t : TxnId) → IsListed is_txn (new_in L all) t → E u t → IsListed is_txn L u ⊎ (IsListed is_txn (new_in L all) u ⊎ waived u)) (o : IsComponentOrder F J M all) where
  abbrev ts : List TxnId
  ts = new_in L all

  abbrev A : TxnId → TxnId → Type 0
  A = among M F

  from_ts : (t : TxnId) → IsListed is_txn ts t → (¬ IsListed is_txn L t) × IsListed is_txn all t
  from_ts t h = let f = from_listed_filter is_txn is_txn-true (λ u. not (is_listed is_txn L u)) all t h in (listed_false is_txn L t (not-true (is_listed is_txn L t) f.0), f.1)

  in_m : (t : TxnId) → IsListed is_txn ts t → IsListed is_txn M t
  in_m t h = o.from t (from_ts t h).1

  passes : (t : TxnId) → IsListed is_txn ts t → not (is_listed is_txn L t) ≡ true
  passes t h = not_from_false (is_listed is_txn L t) (unlisted_test is_txn L t (from_ts t h).0)

  mate_ts : (t c : TxnId) → IsListed is_txn ts t → ¬ waived t → Mates E t c → IsListed is_txn ts c
  mate_ts t c h n m = mate_new E I here waived mates_waived L ts l (λ u k. (from_ts u k).0) closed t c h n m

  before_ts : (u t : TxnId) → IsListed is_txn ts u → IsListed is_txn ts t → IsListedBefore is_txn all u t → IsListedBefore is_txn ts u t
  before_ts u t h k b = before_filter is_txn is_txn-true (λ v. not (is_listed is_txn L v)) all u t (passes u h) (passes t k) b

  before_all : (u t : TxnId) → IsListed is_txn ts u → IsListed is_txn ts t → IsListedBefore is_txn ts u t → IsListedBefore is_txn all u t
  before_all u t h k b = from_before_filter is_txn is_txn-true (λ v. not (is_listed is_txn L v)) all u t (passes u h) (passes t k) b

  -- an edge among the mates of t is followed, and so is a chain
  followed : (t : TxnId) → IsListed is_txn ts t → ¬ waived t → (u v : TxnId) → Mates E t v → E u v × Mates E t u → A u v
  followed t h n u v m e =
      let hv = mate_ts t v h n m in
      let hu = mate_ts t u h n e.1 in
      elim (from u v (from_ts v hv).1 e.0) [ inl f ↦ (in_m u hu, in_m v hv, f) | inr z ↦ absurd (n (mates_waived u t (mates_sym E t u e.1) z)) ]

  among_chain : (t : TxnId) → IsListed is_txn ts t → ¬ waived t → (u v : TxnId) → Mates E t v → Reaches (λ a b. E a b × Mates E t a) u v → Reaches A u v
  among_chain t h n u _ m (direct {t = v} e) = direct (followed t h n u v m e)
  among_chain t h n u _ m (through {s = x} {t = v} p e) = through (among_chain t h n u x e.1 p) (followed t h n x v m e)

  mates_all : (t c : TxnId) → IsListed is_txn ts t → ¬ waived t → Mates E t c → Mates A t c
  mates_all t c h n (inl e) = inl e
  mates_all t c h n (inr p) = inr (
    among_chain t h n t c (inr p) (chain_mates E t t c p.0 (inr p.1) (inl refl)),
    among_chain t h n c t (inl refl) (chain_mates E t c t p.1 (inl refl) (inr p.0)),
  )

  mates_from : (t c : TxnId) → Mates A t c → Mates E t c
  mates_from t c m = mates_weaker A E (λ u v e. to u v e.2) t c m

  pub taken_order : RespectsPrecedence E I waived ts
  taken_order =
      record {
        once = NoneTwice-filter is_txn is_txn-true (λ v. not (is_listed is_txn L v)) all o.once;
        earlier = λ u t h k e n z. elim (from u t (from_ts t k).1 e) [
          | inl f ↦ before_ts u t h k ((o.next t (from_ts t k).1).ready u t (inl refl) (in_m u h, in_m t k, f) (λ m. n (mates_from t u m)))
          | inr y ↦ absurd (z y)
        ];
        together = λ a b t h m n z k.
            let ja : IsListed is_txn ts a = listed_by_before is_txn ts a t k in
            let jb = mate_ts a b ja z m in
            elim (cases_lt (place_of (is_txn b) ts) (place_of (is_txn t) ts)) [
              | inl y ↦ y
              | inr y ↦ absurd (n (mates_from a t ((o.next t (from_ts t h).1).ends a b (before_all a t ja h k) (mates_all a b ja z m) (in_m b jb) (λ q. let x = before_ts b t jb h q in absurd (omega arith)))))
            ];
        inside = λ t h z.
            inside_same A E (among M J) I (λ u. IsListedBefore is_txn all u t) (λ u. IsListedBefore is_txn ts u t) t
            (mates_from t) (λ c m. mates_all t c h z m)
            (λ c m b. before_ts c t (mate_ts t c h z (mates_from t c m)) h b) (λ c m b. before_all c t (mate_ts t c h z (mates_from t c m)) h b)
            (λ p c m q i. to_now p c i.2)
            (λ p c m q i.
            let hp = mate_ts t p h z (mates_from t p m) in
            let hc = mate_ts t c h z (mates_from t c q) in
            elim (from_now p c (from_ts c hc).1 i) [ inl j ↦ (in_m p hp, in_m c hc, j) | inr y ↦ absurd (z (mates_waived p t (mates_sym E t p (mates_from t p m)) y)) ])
            (o.next t (from_ts t h).1).inside;
      }
