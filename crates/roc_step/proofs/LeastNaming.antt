-- The least of the shards at which entries name a transaction
use Rattle.std.proofs.Common.{◌≡◌, ◌≢◌, ℕ, ◌+◌, ◌<◌, ◌≤◌, Bool, true, false, not, cond, min, List, [], ◌∷◌, ◌++◌, length, get_or, take, map, append-nil, Some, None, refl, sym, ap, subst, ◌∙◌, ◌⊎◌, inl, inr, arith}
use Rattle.std.proofs.lemmas.Bool.{cases_lt, not_from_false}
use Rattle.std.proofs.lemmas.List.Concat.{flat_map-append}
use Rattle.std.specs.List.{flat_map}
use Rattle.roc_sequence.specs.Lists.{Has}
use Rattle.roc_sequence.specs.Rising.{IsRising}
use Rattle.roc_sequence.proofs.Fronts.{front_more}
use Rattle.roc_sequence.proofs.Members.{has_append, has_filter}
use Rattle.roc_base.specs.declared.id.TxnId.{TxnId}
use Rattle.roc_base.specs.TxnId.{is_txn}
use Rattle.roc_base.specs.Equalities.{is_txn-true}
use Rattle.roc_base.proofs.Ids.{is_txn-eq}
use Rattle.roc_base.specs.Edge.{Dependency}
use Rattle.roc_base.specs.Edges.{united, entry_at, comes_before, IsAllOf}
use Rattle.roc_base.proofs.Rising.{IsBelowAll, entry_at-below, Some≢None, same_Some}
use Rattle.roc_base.proofs.Members.{IsAllOf-all_of, has-entry_at}
use Rattle.roc_base.proofs.Union.{IsRising-united, entry_at-united}
use Rattle.roc_depgraph.specs.declared.known.KnownList.{KnownList}
use Rattle.roc_step.specs.Links.{without_links, all_entries, least_naming}
use Rattle.roc_step.proofs.WithoutLinks.{entries_left}

pub least_append : (id : TxnId) (at : ℕ) (es fs : List Dependency) → least_naming id at (es ++ fs) ≡ least_naming id (least_naming id at es) fs
least_append id at [] fs = refl
least_append id at (e ∷ es) fs = least_append id (cond (is_txn e.from id) (min at e.at.0) at) es fs

pub least_bound : (id : TxnId) (at : ℕ) (es : List Dependency) → least_naming id at es ≤ at
least_bound id at [] = omega arith
least_bound id at (e ∷ es) = go (is_txn e.from id) (least_bound id (cond (is_txn e.from id) (min at e.at.0) at) es)
  where
    go : (b : Bool) → least_naming id (cond (is_txn e.from id) (min at e.at.0) at) es ≤ cond b (min at e.at.0) at → least_naming id (cond (is_txn e.from id) (min at e.at.0) at) es ≤ at
    go true h = omega arith
    go false h = h

-- no entry that names the transaction has a lower shard
pub least_below : (id : TxnId) (at : ℕ) (es : List Dependency) (d : Dependency) → Has d es → d.from ≡ id → least_naming id at es ≤ d.at.0
least_below id at [] d h is = absurd h
least_below id at (e ∷ es) d (inr h) is = least_below id (cond (is_txn e.from id) (min at e.at.0) at) es d h is
least_below id at (e ∷ es) d (inl f) is =
    let own : is_txn e.from id ≡ true = is_txn-eq e.from id (ap (λ (x : Dependency). x.from) (sym f) ∙ is) in
    let first : cond (is_txn e.from id) (min at e.at.0) at ≡ min at e.at.0 = ap (λ b. cond b (min at e.at.0) at) own in
    let rest = least_bound id (cond (is_txn e.from id) (min at e.at.0) at) es in
    let same : d.at.0 ≡ e.at.0 = ap (λ (x : Dependency). x.at.0) f in
    omega (arith, first, rest, same)

-- where none has one it is the number itself
pub least_none : (id : TxnId) (at : ℕ) (es : List Dependency) → ((d : Dependency) → Has d es → d.from ≡ id → at ≤ d.at.0) → least_naming id at es ≡ at
least_none id at [] none = refl
least_none id at (e ∷ es) none = ap (λ n. least_naming id n es) (go (is_txn e.from id) refl) ∙ least_none id at es (λ d h. none d (inr h))
  where
    go : (b : Bool) → is_txn e.from id ≡ b → cond b (min at e.at.0) at ≡ at
    go true f = let l = none e (inl refl) (is_txn-true e.from id f) in omega (arith, l)
    go false f = refl

-- and else the shard of one of them
abbrev IsOne : TxnId → (at : ℕ) → List Dependency → (least : ℕ) → Type 0
IsOne id at es least = (least ≡ at) ⊎ ((d : Dependency) × Has d es × (d.from ≡ id) × (d.at.0 ≡ least))

pub least_is : (id : TxnId) (at : ℕ) (es : List Dependency) → (least_naming id at es ≡ at) ⊎ ((d : Dependency) × Has d es × (d.from ≡ id) × (d.at.0 ≡ least_naming id at es))
least_is id at [] = inl refl
least_is id at (e ∷ es) = go (is_txn e.from id) refl (λ n. least_is id n es)
  where
    behind : (n : ℕ) → (least_naming id n es ≡ n → IsOne id at (e ∷ es) (least_naming id n es)) → IsOne id n es (least_naming id n es) → IsOne id at (e ∷ es) (least_naming id n es)
    behind n here (inl f) = here f
    behind n here (inr r) = inr (r.0, inr r.1, r.2, r.3)

    go : (b : Bool) → is_txn e.from id ≡ b → ((n : ℕ) → IsOne id n es (least_naming id n es)) → IsOne id at (e ∷ es) (least_naming id (cond b (min at e.at.0) at) es)
    go false f ih = behind at inl (ih at)
    go true f ih =
        elim (cases_lt e.at.0 at) [
          | inl l ↦ behind (min at e.at.0) (λ m. inr (e, inl refl, is_txn-true e.from id f, let low : min at e.at.0 ≡ e.at.0 = omega arith in sym (m ∙ low))) (ih (min at e.at.0))
          | inr l ↦ behind (min at e.at.0) (λ m. inl (let low : min at e.at.0 ≡ at = omega arith in m ∙ low)) (ih (min at e.at.0))
        ]

-- ---- of a rising list it is found at one look

pub least_absent : (id : TxnId) (at : ℕ) (es : List Dependency) → entry_at id es ≡ None → least_naming id at es ≡ at
least_absent id at [] h = refl
least_absent id at (e ∷ es) h = go (is_txn e.from id) h (least_absent id at es)
  where
    go : (b : Bool) → cond b (Some e) (entry_at id es) ≡ None → (entry_at id es ≡ None → least_naming id at es ≡ at) → least_naming id (cond b (min at e.at.0) at) es ≡ at
    go true k ih = absurd (Some≢None e k)
    go false k ih = ih k

pub least_found : (id : TxnId) (at : ℕ) (es : List Dependency) (d : Dependency) → IsRising comes_before es → entry_at id es ≡ Some d → least_naming id at es ≡ min at d.at.0
least_found id at [] d r h = absurd (Some≢None d (sym h))
least_found id at (e ∷ es) d r h = go (is_txn e.from id) refl h (least_found id at es d r.1)
  where
    go : (b : Bool) → is_txn e.from id ≡ b → cond b (Some e) (entry_at id es) ≡ Some d → (entry_at id es ≡ Some d → least_naming id at es ≡ min at d.at.0) → least_naming id (cond b (min at e.at.0) at) es ≡ min at d.at.0
    go true f k ih =
        least_absent id (min at e.at.0) es (entry_at-below id es (subst (λ v. IsBelowAll v es) (is_txn-true e.from id f) r.0))
        ∙ ap (λ (x : Dependency). min at x.at.0) (same_Some e d k)
    go false f k ih = ih k

-- of lists, one after another
pub least_more : (id : TxnId) (at : ℕ) (lists : List (List Dependency)) (i : ℕ) (es : List Dependency) (least next : ℕ) → i < length lists → es ≡ get_or lists i es → least ≡ least_naming id at (flat_map (λ l. l) (take i lists))
    → next ≡ least_naming id least es → next ≡ least_naming id at (flat_map (λ l. l) (take (i + 1) lists))
least_more id at lists i es least next within is so_far e =
    e ∙ ap (λ n. least_naming id n es) so_far ∙ sym (least_append id at (flat_map (λ l. l) (take i lists)) es)
    ∙ ap (least_naming id at)
    (ap (λ ds. flat_map (λ l. l) (take i lists) ++ ds) (sym (append-nil es)) ∙ sym (flat_map-append (λ (l : List Dependency). l) (take i lists) (es ∷ [])) ∙ ap (flat_map (λ l. l)) (front_more lists i es within is))

-- ---- of what new lists name

-- where no list that was known before names its transaction, an entry of what is followed of new ones, joined, has the least shard of all
pub least_of_news : (p : TxnId → Bool) (known news : List KnownList) (d : Dependency) → ((e : Dependency) → Has e (all_entries known) → e.from ≢ d.from) → p d.from ≡ false
    → Has d (united (all_entries (map (without_links p) news))) → least_naming d.from d.at.0 (all_entries (known ++ news)) ≡ d.at.0
least_of_news p known news d none followed h =
    least_none d.from d.at.0 (all_entries (known ++ news)) (λ e k is. low e (has_append e (all_entries known) (all_entries news) (subst (Has e) (flat_map-append (λ (k : KnownList). k.edges) known news) k)) is)
  where
    left : List Dependency
    left = all_entries (map (without_links p) news)

    all : IsAllOf d.from left d
    all = IsAllOf-all_of d.from left d (sym (entry_at-united d.from left) ∙ has-entry_at (united left) d (IsRising-united left) h)

    low : (e : Dependency) → Has e (all_entries known) ⊎ Has e (all_entries news) → e.from ≡ d.from → d.at.0 ≤ e.at.0
    low e (inl k) is = absurd (none e k is)
    low e (inr k) is =
        (all.covers e (subst (Has e) (sym (entries_left p news)) (has_filter (λ (x : Dependency). not (p x.from)) e (all_entries news) k (not_from_false (p e.from) (ap p is ∙ followed)))) is).at
