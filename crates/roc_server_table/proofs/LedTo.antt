-- What entries lead to, by bits
use Rattle.std.proofs.Common.{◌≡◌, ◌+◌, ◌<◌, inl, inr, ℕ, true, List, [], ◌∷◌, ◌++◌, length, take, get_or, filter, Option, Some, None}
use Rattle.std.proofs.Common.{is_some, unwrap_or, append_assoc, append-nil, refl, sym, ap, ◌∙◌, subst}
use Rattle.std.proofs.Common.{Result, Ok, Err}
use Rattle.std.proofs.lemmas.Bool.{false≢true}
use Rattle.std.specs.List.{list_any}
use Rattle.std.specs.Map.{lookup}
use Rattle.std.specs.Prelude.{IfOk, Vec}
use Rattle.std.specs.declared.alloc.Global.{Global}
use Rattle.roc_sequence.specs.Lists.{Has}
use Rattle.roc_sequence.specs.Places.{IsListed}
use Rattle.roc_sequence.proofs.Fronts.{front_more}
use Rattle.roc_sequence.proofs.Members.{from_has_filter, has_append, has_filter, has_left, has_one, has_right}
use Rattle.roc_base.specs.declared.id.TxnId.{TxnId}
use Rattle.roc_base.specs.declared.memory.NoMemory.{NoMemory}
use Rattle.roc_base.specs.TxnId.{is_txn}
use Rattle.roc_base.specs.Edge.{Dependency}
use Rattle.roc_depgraph.specs.declared.known.KnownList.{KnownList}
use Rattle.roc_depgraph.specs.Deps.{list_of, is_known, IsKnown, Precedes}
use Rattle.roc_depgraph.specs.Reach.{Reaches, direct, through, ReachesOrIs}
use Rattle.roc_depgraph.proofs.Chains.{chain_before}
use Rattle.roc_depgraph.proofs.Listed.{has_under, under_has}
use Rattle.roc_step.specs.Led.{IsKnownAndLedTo}
use Rattle.roc_server_reach.specs.Least.{AreLeastIds}
use Rattle.roc_server_reach.proofs.LeastOf.{least_same}
use Rattle.roc_server_reach.specs.Bits.{bit_at, itself, onward, AreReached, BitTable, LeadsBy}
use Rattle.roc_server_reach.proofs.Chains.{chain_before as bits_before}
use Rattle.roc_server_rows.specs.declared.rows.Row.{Row}
use Rattle.roc_server_rows.specs.declared.rows.Parts.{Parts}
use Rattle.roc_server_rows.specs.Rows.{row_in, is_told, row_links, AreWhole}
use Rattle.roc_server_table.specs.Inner.Leading.{start_of, starts_of, told_ids, AreBits}
use Rattle.roc_server_rows.proofs.Alive.{alive_live, told_live}
use Rattle.roc_server_rows.proofs.DecidedRows.{link_named, named_link}
use Rattle.roc_server_table.proofs.KnownRows.{absent_links_known, links_told}

-- ---- where entries start

starts_append : (numbers : List (TxnId × ℕ)) (ds es : List Dependency) → starts_of numbers (ds ++ es) ≡ starts_of numbers ds ++ starts_of numbers es
starts_append numbers [] es = refl
starts_append numbers (d ∷ ds) es =
    ap (λ ns. start_of (lookup (is_txn d.from) numbers) ++ ns) (starts_append numbers ds es)
    ∙ sym (append_assoc (start_of (lookup (is_txn d.from) numbers)) (starts_of numbers ds) (starts_of numbers es))

pub starts_more : (numbers : List (TxnId × ℕ)) (ds : List Dependency) (i : ℕ) (d : Dependency) (id : TxnId) (old new : List ℕ) → i < length ds → d ≡ get_or ds i d → id ≡ d.from
    → old ≡ starts_of numbers (take i ds) → new ≡ old ++ start_of (lookup (is_txn id) numbers) → new ≡ starts_of numbers (take (i + 1) ds)
starts_more numbers ds i d id old new within is from so_far e =
    let own : start_of (lookup (is_txn id) numbers) ≡ starts_of numbers (d ∷ [])
    = ap (λ q. start_of (lookup (is_txn q) numbers)) from ∙ sym (append-nil (start_of (lookup (is_txn d.from) numbers))) in
    e ∙ (ap (λ ns. ns ++ start_of (lookup (is_txn id) numbers)) so_far ∙ (ap (λ ns. starts_of numbers (take i ds) ++ ns) own
    ∙ (sym (starts_append numbers (take i ds) (d ∷ [])) ∙ ap (starts_of numbers) (front_more ds i d within is))))

start_is : (o : Option ℕ) (n : ℕ) → Has n (start_of o) → o ≡ Some n
start_is None n h = absurd h
start_is (Some m) n h = ap Some (sym (has_one n m h))

is_start : (o : Option ℕ) (n : ℕ) → o ≡ Some n → Has n (start_of o)
is_start o n e = subst (λ (x : Option ℕ). Has n (start_of x)) (sym e) (inl refl)

has_start : (numbers : List (TxnId × ℕ)) (ds : List Dependency) (n : ℕ) → Has n (starts_of numbers ds) → (d : Dependency) × Has d ds × (lookup (is_txn d.from) numbers ≡ Some n)
has_start numbers [] n h = absurd h
has_start numbers (d ∷ ds) n h = elim (has_append n (start_of (lookup (is_txn d.from) numbers)) (starts_of numbers ds) h) [
  | inl k ↦ (d, inl refl, start_is (lookup (is_txn d.from) numbers) n k)
  | inr k ↦ (let w = has_start numbers ds n k in (w.0, inr w.1, w.2))
]

start_has : (numbers : List (TxnId × ℕ)) (ds : List Dependency) (d : Dependency) (n : ℕ) → Has d ds → lookup (is_txn d.from) numbers ≡ Some n → Has n (starts_of numbers ds)
start_has numbers [] d n h here = absurd h
start_has numbers (x ∷ xs) d n (inl e) here =
    has_left n (start_of (lookup (is_txn x.from) numbers)) (starts_of numbers xs)
    (is_start (lookup (is_txn x.from) numbers) n (ap (λ (y : Dependency). lookup (is_txn y.from) numbers) (sym e) ∙ here))
start_has numbers (x ∷ xs) d n (inr h) here = has_right n (start_of (lookup (is_txn x.from) numbers)) (starts_of numbers xs) (start_has numbers xs d n h here)

-- what precedes a transaction stands on its list
preceded_known : (known : List KnownList) (u t : TxnId) → Precedes known u t → is_known known t ≡ true
preceded_known known u t p = go (list_of t known) p
  where
    go : (o : Option (List Dependency)) → list_any (λ d. is_txn d.from u) (unwrap_or o []) ≡ true → is_some o ≡ true
    go None h = absurd (false≢true h)
    go (Some es) h = refl

-- ---- rows and bits

module _ (p : Parts) (t : AreWhole p) (bits : BitTable) (a : AreBits p.rows.items bits) where
  abbrev numbers : List (TxnId × ℕ)
  numbers = p.numbers.entries

  abbrev rows : List Row
  rows = p.rows.items

  abbrev id_at : ℕ → TxnId
  id_at n = (row_in rows n).id

  abbrev Before : TxnId → TxnId → Type 0
  Before = Precedes (row_links rows)

  edge_of : (n m : ℕ) → bit_at bits n m ≡ true → Before (id_at m) (id_at n)
  edge_of n m b =
      let x = a.only n m b in
      subst (λ j. Before (id_at j) (id_at n)) x.is (link_named numbers rows p.stamp t n x.told x.link x.has x.alive)

  chain_of : (n m : ℕ) → LeadsBy bits n m → ReachesOrIs Before (id_at m) (id_at n)
  chain_of n _ itself = inl refl
  chain_of n m (onward {k} w b) = inr (chain_before Before (id_at m) (id_at k) (id_at n) (edge_of k m b) (chain_of n k w))

  -- the row of what precedes that of a row
  next_row : (u v : TxnId) (n : ℕ) → lookup (is_txn v) numbers ≡ Some n → Before u v → (m : ℕ) × (lookup (is_txn u) numbers ≡ Some m) × (bit_at bits n m ≡ true)
  next_row u v n here e =
      let told : is_told (row_in rows n) ≡ true = sym (links_told numbers rows p.stamp t v n here) ∙ preceded_known (row_links rows) u v e in
      let w = named_link numbers rows p.stamp t n told u (subst (Before u) (sym (t.found v n here).is) e) in
      let own : lookup (is_txn u) numbers ≡ Some w.0.at = ap (λ q. lookup (is_txn q) numbers) (sym w.3) ∙ t.each w.0.at (alive_live rows w.0 w.2) in
      (w.0.at, own, a.all n w.0.at (record { told = told; link = w.0; has = w.1; alive = w.2; is = refl }))

  rows_of : (u v : TxnId) → Reaches Before u v → (n : ℕ) → lookup (is_txn v) numbers ≡ Some n → (m : ℕ) × (lookup (is_txn u) numbers ≡ Some m) × LeadsBy bits n m
  rows_of u v (direct e) n here = let w = next_row u v n here e in (w.0, w.1, onward itself w.2)
  rows_of u v (through {s} r e) n here =
      let w = next_row s v n here e in
      let k = rows_of u s r w.0 w.1 in
      (k.0, k.1, bits_before bits n w.0 k.0 w.2 k.2)

  row_known : (u : TxnId) → IsKnown (row_links rows) u → (o : Option ℕ) → lookup (is_txn u) numbers ≡ o → (m : ℕ) × (lookup (is_txn u) numbers ≡ Some m)
  row_known u known None e = absurd (false≢true (sym (absent_links_known numbers rows p.stamp t u e) ∙ known))
  row_known u known (Some m) e = (m, e)

  -- the row of what reaches another, or is it
  start_row : (u v : TxnId) → IsKnown (row_links rows) u → ReachesOrIs Before u v → (n : ℕ) × (lookup (is_txn v) numbers ≡ Some n)
  start_row u v known (inl e) = let w = row_known u known (lookup (is_txn u) numbers) refl in (w.0, ap (λ q. lookup (is_txn q) numbers) (sym e) ∙ w.1)
  start_row u v known (inr r) = row_known v (ends_known u v r) (lookup (is_txn v) numbers) refl
    where
      ends_known : (x y : TxnId) → Reaches Before x y → IsKnown (row_links rows) y
      ends_known x y (direct e) = preceded_known (row_links rows) x y e
      ends_known x y (through {s} q e) = preceded_known (row_links rows) s y e

  -- ---- what is reached from entries

  module _ (edges : List Dependency) (ns : List ℕ) (r : AreReached bits (starts_of numbers edges) ns) where
    pub led : (u : TxnId) → IsListed is_txn (told_ids rows ns) u → IsKnownAndLedTo (row_links rows) edges u
    led u l =
        let w = has_under id_at (filter (λ n. is_told (row_in rows n)) ns) u l in
        let k = from_has_filter (λ n. is_told (row_in rows n)) w.0 ns w.1 in
        let f = r.only w.0 k.0 in
        let d = has_start numbers edges f.start f.among in
        let here : lookup (is_txn (id_at w.0)) numbers ≡ Some w.0 = t.each w.0 (told_live numbers rows p.stamp t w.0 k.1) in
        let known : IsKnown (row_links rows) u = subst (IsKnown (row_links rows)) w.2 (links_told numbers rows p.stamp t (id_at w.0) w.0 here ∙ k.1) in (
          known,
          record {
            entry = d.0;
            is = d.1;
            from = subst (λ v. ReachesOrIs Before v d.0.from) w.2 (subst (ReachesOrIs Before (id_at w.0)) (t.found d.0.from f.start d.2).is (chain_of f.start w.0 f.leads));
          },
        )

    pub met : (u : TxnId) → IsKnownAndLedTo (row_links rows) edges u → IsListed is_txn (told_ids rows ns) u
    met u (known, l) =
        let s = start_row u l.entry.from known l.from in
        let w = last s.0 s.1 l.from in
        let has : Has w.0 ns = r.all s.0 w.0 (start_has numbers edges l.entry s.0 l.is s.1) w.2 in
        let told : is_told (row_in rows w.0) ≡ true = sym (links_told numbers rows p.stamp t u w.0 w.1) ∙ known in
        subst (IsListed is_txn (told_ids rows ns)) (t.found u w.0 w.1).is
        (under_has id_at (filter (λ n. is_told (row_in rows n)) ns) w.0 (has_filter (λ n. is_told (row_in rows n)) w.0 ns has told))
      where
        last : (n : ℕ) → lookup (is_txn l.entry.from) numbers ≡ Some n → ReachesOrIs Before u l.entry.from → (m : ℕ) × (lookup (is_txn u) numbers ≡ Some m) × LeadsBy bits n m
        last n here (inl e) = (n, ap (λ q. lookup (is_txn q) numbers) e ∙ here, itself)
        last n here (inr q) = rows_of u l.entry.from q n here

    -- and the least of them
    pub least_led : (ids : List TxnId) → ids ≡ told_ids rows ns → (result : Result (Vec TxnId Global) NoMemory) → IfOk result (λ v. AreLeastIds (IsListed is_txn ids) v.items)
        → IfOk result (λ v. AreLeastIds (IsKnownAndLedTo (row_links rows) edges) v.items)
    least_led ids e (Ok v) h =
        least_same (IsListed is_txn ids) (IsKnownAndLedTo (row_links rows) edges) (λ u l. led u (subst (λ xs. IsListed is_txn xs u) e l)) (λ u k. subst (λ xs. IsListed is_txn xs u) (sym e) (met u k))
        v.items h
    least_led ids e (Err f) h = tt
