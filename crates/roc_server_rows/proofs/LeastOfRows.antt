-- The least shard at which entries of rows name a transaction, in whatever order the rows stand
use Rattle.std.proofs.Common.{◌≡◌, ◌<◌, ◌+◌, ℕ, Bool, true, false, cond, min, List, [], ◌∷◌, ◌++◌, length, get_or, take, map, append-nil, refl, sym, ap, ◌∙◌, arith}
use Rattle.std.proofs.lemmas.Bool.Decides.{nat_tests}
use Rattle.std.proofs.lemmas.List.Concat.{flat_map-append}
use Rattle.std.specs.Prelude.{nat_lt}
use Rattle.std.specs.List.{flat_map}
use Rattle.roc_sequence.proofs.Fronts.{front_more}
use Rattle.roc_base.specs.declared.id.TxnId.{TxnId}
use Rattle.roc_base.specs.TxnId.{is_txn}
use Rattle.roc_base.specs.Edge.{Dependency}
use Rattle.roc_step.specs.Links.{all_entries, least_naming}
use Rattle.roc_step.proofs.LeastNaming.{least_append}
use Rattle.roc_server_rows.specs.declared.rows.Row.{Row}
use Rattle.roc_server_rows.specs.Inner.Rows.{told_entries}
use Rattle.roc_server_rows.specs.Rows.{is_told, put_row, rows_in_turn, known_in, known_of}

-- all entries of rows
abbrev entries_in : List Row → List Dependency
entries_in rs = all_entries (map known_in rs)

module _ (id : TxnId) where
  least_min : (m n : ℕ) (es : List Dependency) → least_naming id (min m n) es ≡ min m (least_naming id n es)
  least_min m n [] = refl
  least_min m n (e ∷ es) = go (is_txn e.from id) (λ k. least_min m k es)
    where
      go : (b : Bool) → ((k : ℕ) → least_naming id (min m k) es ≡ min m (least_naming id k es))
          → least_naming id (cond b (min (min m n) e.at.0) (min m n)) es ≡ min m (least_naming id (cond b (min n e.at.0) n) es)
      go true ih = let same : min (min m n) e.at.0 ≡ min m (min n e.at.0) = omega arith in ap (λ k. least_naming id k es) same ∙ ih (min n e.at.0)
      go false ih = ih n

  -- two lists in either order
  least_swap : (at : ℕ) (xs ys : List Dependency) → least_naming id (least_naming id at xs) ys ≡ least_naming id (least_naming id at ys) xs
  least_swap at [] ys = refl
  least_swap at (e ∷ es) ys = go (is_txn e.from id) (λ k. least_swap k es ys)
    where
      behind : (n : ℕ) → least_naming id (min at n) ys ≡ min (least_naming id at ys) n
      behind n =
          let here : min at n ≡ min n at = omega arith in
          let there : min n (least_naming id at ys) ≡ min (least_naming id at ys) n = omega arith in
          ap (λ k. least_naming id k ys) here ∙ (least_min n at ys ∙ there)

      go : (b : Bool) → ((k : ℕ) → least_naming id (least_naming id k es) ys ≡ least_naming id (least_naming id k ys) es)
          → least_naming id (least_naming id (cond b (min at e.at.0) at) es) ys ≡ least_naming id (cond b (min (least_naming id at ys) e.at.0) (least_naming id at ys)) es
      go true ih = ih (min at e.at.0) ∙ ap (λ k. least_naming id k es) (behind e.at.0)
      go false ih = ih at

  put_least : (at : ℕ) (r : Row) (ss : List Row) → least_naming id at (entries_in (put_row r ss)) ≡ least_naming id (least_naming id at r.edges) (entries_in ss)
  put_least at r [] = least_append id at r.edges []
  put_least at r (s ∷ ss) = go (nat_lt r.turn s.turn) (λ k. put_least k r ss)
    where
      go : (b : Bool) → ((k : ℕ) → least_naming id k (entries_in (put_row r ss)) ≡ least_naming id (least_naming id k r.edges) (entries_in ss))
          → least_naming id at (entries_in (cond b (r ∷ s ∷ ss) (s ∷ put_row r ss))) ≡ least_naming id (least_naming id at r.edges) (s.edges ++ entries_in ss)
      go true ih = least_append id at r.edges (s.edges ++ entries_in ss)
      go false ih =
          least_append id at s.edges (entries_in (put_row r ss))
          ∙ (ih (least_naming id at s.edges)
          ∙ (ap (λ k. least_naming id k (entries_in ss)) (least_swap at s.edges r.edges)
          ∙ sym (least_append id (least_naming id at r.edges) s.edges (entries_in ss))))

  turn_least : (at : ℕ) (rs : List Row) → least_naming id at (entries_in (rows_in_turn rs)) ≡ least_naming id at (flat_map told_entries rs)
  turn_least at [] = refl
  turn_least at (r ∷ rs) = go (is_told r) (λ k. turn_least k rs)
    where
      go : (b : Bool) → ((k : ℕ) → least_naming id k (entries_in (rows_in_turn rs)) ≡ least_naming id k (flat_map told_entries rs))
          → least_naming id at (entries_in (cond b (put_row r (rows_in_turn rs)) (rows_in_turn rs))) ≡ least_naming id at (cond b r.edges [] ++ flat_map told_entries rs)
      go true ih = put_least at r (rows_in_turn rs) ∙ (ih (least_naming id at r.edges) ∙ sym (least_append id at r.edges (flat_map told_entries rs)))
      go false ih = ih at

  -- as the rows stand
  pub rows_least : (at : ℕ) (rs : List Row) → least_naming id at (flat_map told_entries rs) ≡ least_naming id at (all_entries (known_of rs))
  rows_least at rs = sym (turn_least at rs)

  pub row_more : (at : ℕ) (rs : List Row) (i : ℕ) (r : Row) (least next : ℕ) → i < length rs → r ≡ get_or rs i r → least ≡ least_naming id at (flat_map told_entries (take i rs))
      → next ≡ least_naming id least (told_entries r)
      → next ≡ least_naming id at (flat_map told_entries (take (i + 1) rs))
  row_more at rs i r least next within is so_far e =
      e ∙ (ap (λ n. least_naming id n (told_entries r)) so_far ∙ (sym (least_append id at (flat_map told_entries (take i rs)) (told_entries r))
      ∙ ap (least_naming id at)
      (ap (λ ds. flat_map told_entries (take i rs) ++ ds) (sym (append-nil (told_entries r)))
      ∙ (sym (flat_map-append told_entries (take i rs) (r ∷ [])) ∙ ap (flat_map told_entries) (front_more rs i r within is)))))

-- a row without a list has no entries, and one with a list has those of the list
pub untold_entries : (r : Row) → r.turn ≡ 0 → told_entries r ≡ []
untold_entries r z = ap (λ n. cond (nat_lt 0 n) r.edges []) z

pub row_entries : (r : Row) → 0 < r.turn → told_entries r ≡ r.edges
row_entries r h = let told : is_told r ≡ true = grind (arith, nat_tests) in ap (λ b. cond b r.edges []) told
