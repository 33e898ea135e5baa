-- The entries of a list, and of a union
use Rattle.std.proofs.Common.{◌≡◌, ◌≢◌, ℕ, ◌≤◌, ◌<◌, Bool, true, false, cond, List, [], ◌∷◌, Option, Some, None, refl, sym, ap, subst, ◌∙◌, inl, inr, arith}
use Rattle.std.proofs.lemmas.Bool.{or_cases, or_left, or_right, cases_lt}
use Rattle.std.specs.List.{AllByRecursion}
use Rattle.roc_base.specs.declared.id.TxnId.{TxnId}
use Rattle.roc_base.specs.declared.node.Shard.{Shard}
use Rattle.roc_base.specs.TxnId.{is_txn}
use Rattle.roc_base.proofs.Ids.{is_txn-false, txn_lt-ne}
use Rattle.roc_base.specs.Equalities.{is_txn-true}
use Rattle.roc_base.specs.Edge.{Dependency, joined, least_shard}
use Rattle.roc_base.specs.Edges.{comes_before, entry_at, all_of, joined_with, united, Covers, IsAllOf}
use Rattle.roc_sequence.specs.Lists.{Has}
use Rattle.roc_sequence.proofs.Holds.{all_has}
use Rattle.roc_base.proofs.Rising.{Some≢None, same_Some, entry_at-other, entry_at-first, IsBelowAll}
use Rattle.roc_base.proofs.Union.{IsRising-united, entry_at-united}
use Rattle.roc_sequence.specs.Rising.{IsRising}

-- what is found is an entry of that id
pub entry_at-has : (id : TxnId) (es : List Dependency) (d : Dependency) → entry_at id es ≡ Some d → Has d es × (d.from ≡ id)
entry_at-has id [] d h = absurd (Some≢None d (sym h))
entry_at-has id (e ∷ es) d h = go (is_txn e.from id) refl h (entry_at-has id es d)
  where
    go : (s : Bool) → is_txn e.from id ≡ s → cond s (Some e) (entry_at id es) ≡ Some d → (entry_at id es ≡ Some d → Has d es × (d.from ≡ id)) → Has d (e ∷ es) × (d.from ≡ id)
    go true k m ih =
        let same : e ≡ d = same_Some e d m in
        (inl (sym same), ap (λ x. x.from) (sym same) ∙ is_txn-true e.from id k)
    go false k m ih = let p = ih m in (inr p.0, p.1)

-- in a rising list each entry is found at its id
pub has-entry_at : (es : List Dependency) (d : Dependency) → IsRising comes_before es → Has d es → entry_at d.from es ≡ Some d
has-entry_at [] d r h = absurd h
has-entry_at (e ∷ es) d r (inl p) = subst (λ x. entry_at x.from (e ∷ es) ≡ Some x) (sym p) (entry_at-first e es)
has-entry_at (e ∷ es) d r (inr h) =
    let above = all_has (λ x. is_txn e.from x.from ≡ false) d es (weaker es r.0) h in
    entry_at-other d.from e es above ∙ has-entry_at es d r.1 h
  where
    weaker : (xs : List Dependency) → IsBelowAll e.from xs → AllByRecursion (λ x. is_txn e.from x.from ≡ false) xs
    weaker [] k = tt
    weaker (x ∷ xs) k = (txn_lt-ne e.from x.from k.0, weaker xs k.1)

pub covers_itself : (a : Dependency) → Covers a a
covers_itself a = record { from = refl; imm = λ h. h; def = λ h. h; at = omega arith }

pub covers_chain : (a b c : Dependency) → Covers a b → Covers b c → Covers a c
covers_chain a b c x y = record { from = x.from ∙ y.from; imm = λ h. x.imm (y.imm h); def = λ h. x.def (y.def h); at = let p = x.at in let q = y.at in omega arith }

pub joined_left : (a b : Dependency) → Covers (joined a b) a
joined_left a b = record { from = refl; imm = λ h. or_left a.imm b.imm h; def = λ h. or_left a.def b.def h; at = omega arith }

pub joined_right : (a b : Dependency) → a.from ≡ b.from → Covers (joined a b) b
joined_right a b e = record { from = e; imm = λ h. or_right a.imm b.imm h; def = λ h. or_right a.def b.def h; at = omega arith }

-- the least of two shards is one of them
least_shard-left : (a b : Shard) → a.0 ≤ b.0 → a ≡ least_shard a b
least_shard-left a b h =
    let shard : ℕ → Shard = λ n. record { 0 = n } in
    ap shard (omega arith)

least_shard-right : (a b : Shard) → b.0 < a.0 → b ≡ least_shard a b
least_shard-right a b h =
    let shard : ℕ → Shard = λ n. record { 0 = n } in
    ap shard (omega arith)

IsAllOf-more : (id : TxnId) (e : Dependency) (es : List Dependency) (z : Dependency) → e.from ≡ id → IsAllOf id es z → IsAllOf id (e ∷ es) (joined e z)
IsAllOf-more id e es z h s = record {
  from = h;
  imm = λ k. elim (or_cases e.imm z.imm k) [ inl l ↦ (e, inl refl, h, l) | inr l ↦ (let p = s.imm l in (p.0, inr p.1, p.2, p.3)) ];
  def = λ k. elim (or_cases e.def z.def k) [ inl l ↦ (e, inl refl, h, l) | inr l ↦ (let p = s.def l in (p.0, inr p.1, p.2, p.3)) ];
  at = elim (cases_lt z.at.0 e.at.0) [ inl l ↦ (let p = s.at in (p.0, inr p.1, p.2, p.3 ∙ least_shard-right e.at z.at l)) | inr l ↦ (e, inl refl, h, least_shard-left e.at z.at l) ];
  covers = covered;
}
  where
    covered : (d : Dependency) → Has d (e ∷ es) → d.from ≡ id → Covers (joined e z) d
    covered d (inl p) k = subst (Covers (joined e z)) (sym p) (joined_left e z)
    covered d (inr m) k = covers_chain (joined e z) z d (joined_right e z (h ∙ sym s.from)) (s.covers d m k)

IsAllOf-alone : (id : TxnId) (e : Dependency) (es : List Dependency) → e.from ≡ id → ((d : Dependency) → Has d es → d.from ≢ id) → IsAllOf id (e ∷ es) e
IsAllOf-alone id e es h none = record {
  from = h;
  imm = λ k. (e, inl refl, h, k);
  def = λ k. (e, inl refl, h, k);
  at = (e, inl refl, h, refl);
  covers = covered;
}
  where
    covered : (d : Dependency) → Has d (e ∷ es) → d.from ≡ id → Covers e d
    covered d (inl p) k = subst (Covers e) (sym p) (covers_itself e)
    covered d (inr m) k = absurd (none d m k)

IsAllOf-other : (id : TxnId) (e : Dependency) (es : List Dependency) (z : Dependency) → e.from ≢ id → IsAllOf id es z → IsAllOf id (e ∷ es) z
IsAllOf-other id e es z n s = record {
  from = s.from;
  imm = λ k. let p = s.imm k in (p.0, inr p.1, p.2, p.3);
  def = λ k. let p = s.def k in (p.0, inr p.1, p.2, p.3);
  at = let p = s.at in (p.0, inr p.1, p.2, p.3);
  covers = covered;
}
  where
    covered : (d : Dependency) → Has d (e ∷ es) → d.from ≡ id → Covers z d
    covered d (inl p) k = absurd (n (ap (λ x. x.from) (sym p) ∙ k))
    covered d (inr m) k = s.covers d m k

-- where nothing is said of an id, no entry is of it
pub all_of-none : (id : TxnId) (es : List Dependency) → all_of id es ≡ None → (d : Dependency) → Has d es → d.from ≢ id
all_of-none id [] h d k = absurd k
all_of-none id (e ∷ es) h d k = go (is_txn e.from id) refl h k (all_of-none id es)
  where
    go : (s : Bool) → is_txn e.from id ≡ s → cond s (Some (joined_with e (all_of id es))) (all_of id es) ≡ None → Has d (e ∷ es) → (all_of id es ≡ None → (x : Dependency) → Has x es → x.from ≢ id) → d.from ≢ id
    go true f m k ih = absurd (Some≢None (joined_with e (all_of id es)) m)
    go false f m (inl p) ih = λ q. is_txn-false e.from id f (ap (λ x. x.from) (sym p) ∙ q)
    go false f m (inr l) ih = ih m d l

-- what is said of an id is what its entries say
pub IsAllOf-all_of : (id : TxnId) (es : List Dependency) (z : Dependency) → all_of id es ≡ Some z → IsAllOf id es z
IsAllOf-all_of id [] z h = absurd (Some≢None z (sym h))
IsAllOf-all_of id (e ∷ es) z h = go (is_txn e.from id) (all_of id es) refl refl h (IsAllOf-all_of id es)
  where
    go : (s : Bool) (o : Option Dependency) → is_txn e.from id ≡ s → all_of id es ≡ o → cond s (Some (joined_with e o)) o ≡ Some z → ((y : Dependency) → all_of id es ≡ Some y → IsAllOf id es y) → IsAllOf id (e ∷ es) z
    go true None f k m ih = subst (IsAllOf id (e ∷ es)) (same_Some e z m) (IsAllOf-alone id e es (is_txn-true e.from id f) (all_of-none id es k))
    go true (Some y) f k m ih = subst (IsAllOf id (e ∷ es)) (same_Some (joined e y) z m) (IsAllOf-more id e es y (is_txn-true e.from id f) (ih y k))
    go false o f k m ih = IsAllOf-other id e es z (is_txn-false e.from id f) (ih z (k ∙ m))

-- an entry of the union says what the entries of its id say
pub IsAllOf-united : (es : List Dependency) (z : Dependency) → Has z (united es) → IsAllOf z.from es z
IsAllOf-united es z h = IsAllOf-all_of z.from es z (sym (entry_at-united z.from es) ∙ has-entry_at (united es) z (IsRising-united es) h)

-- each entry is covered by the union's entry of its id
pub has-united : (es : List Dependency) (d : Dependency) → Has d es → (z : Dependency) × Has z (united es) × Covers z d
has-united es d h = go (all_of d.from es) refl
  where
    go : (o : Option Dependency) → all_of d.from es ≡ o → (z : Dependency) × Has z (united es) × Covers z d
    go None k = absurd (all_of-none d.from es k d h refl)
    go (Some z) k = (z, (entry_at-has d.from (united es) z (entry_at-united d.from es ∙ k)).0, (IsAllOf-all_of d.from es z k).covers d h refl)
