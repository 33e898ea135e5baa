-- Lists that are looked up by transaction
use Rattle.std.proofs.Common.{◌≡◌, ◌<◌, ◌⊎◌, inl, inr, ℕ, zero, suc, Bool, true, false, cond, List, [], ◌∷◌, length, map, Some, None, refl, sym, ap, ◌∙◌, subst, arith}
use Rattle.std.proofs.lemmas.Bool.{false≢true}
use Rattle.std.proofs.lemmas.Bool.Decides.{nat_tests}
use Rattle.std.specs.Prelude.{nat_lt}
use Rattle.std.specs.Map.{lookup}
use Rattle.std.specs.List.{AllByRecursion}
use Rattle.roc_sequence.specs.Lists.{Has}
use Rattle.roc_base.specs.declared.id.TxnId.{TxnId}
use Rattle.roc_base.specs.TxnId.{is_txn}
use Rattle.roc_base.specs.Equalities.{is_txn-true}
use Rattle.roc_base.proofs.Ids.{is_txn-eq}
use Rattle.roc_base.specs.Edge.{Dependency}
use Rattle.roc_depgraph.specs.declared.known.KnownList.{KnownList}
use Rattle.roc_depgraph.specs.Deps.{list_of}
use Rattle.roc_step.specs.Carried.{list_with}
use Rattle.roc_server_rows.specs.declared.rows.Row.{Row}
use Rattle.roc_server_rows.specs.Inner.Rows.{told_list}
use Rattle.roc_server_rows.specs.Rows.{row_in, is_told, put_row, rows_in_turn, known_of, IsRowOf, IsRowTable}
use Rattle.roc_server_rows.proofs.Turns.{turn_all}
use Rattle.roc_server_rows.proofs.Alive.{row_within, told_live}

put_has : (x r : Row) (ss : List Row) → (x ≡ r) ⊎ Has x ss → Has x (put_row r ss)
put_has x r [] h = h
put_has x r (s ∷ ss) h = go (nat_lt r.turn s.turn) h (put_has x r ss)
  where
    go : (b : Bool) → (x ≡ r) ⊎ ((x ≡ s) ⊎ Has x ss) → ((x ≡ r) ⊎ Has x ss → Has x (put_row r ss)) → Has x (cond b (r ∷ s ∷ ss) (s ∷ put_row r ss))
    go true k ih = k
    go false (inl e) ih = inr (ih (inl e))
    go false (inr (inl e)) ih = inl e
    go false (inr (inr k)) ih = inr (ih (inr k))

pub turn_has : (rs : List Row) (n : ℕ) → n < length rs → is_told (row_in rs n) ≡ true → Has (row_in rs n) (rows_in_turn rs)
turn_has [] n h t = absurd (omega arith)
turn_has (r ∷ rs) zero h t = subst (λ (b : Bool). Has r (cond b (put_row r (rows_in_turn rs)) (rows_in_turn rs))) (sym t) (put_has r r (rows_in_turn rs) (inl refl))
turn_has (r ∷ rs) (suc n) h t = go (is_told r) (turn_has rs n (omega arith) t)
  where
    go : (b : Bool) → Has (row_in rs n) (rows_in_turn rs) → Has (row_in rs n) (cond b (put_row r (rows_in_turn rs)) (rows_in_turn rs))
    go true k = put_has (row_in rs n) r (rows_in_turn rs) (inr k)
    go false k = k

-- ---- a list that is made of each row

module _ (made : Row → List Dependency) where
  abbrev pub made_in : Row → KnownList
  made_in r = list_with r.id (made r)

  -- the only one of its transaction
  found_made : (id : TxnId) (r : Row) (rs : List Row) → r.id ≡ id → Has r rs → AllByRecursion (λ s. s.id ≡ id → s ≡ r) rs → list_of id (map made_in rs) ≡ Some (made r)
  found_made id r [] is h a = absurd h
  found_made id r (s ∷ ss) is h a = go (is_txn s.id id) refl h (λ k. found_made id r ss is k a.1)
    where
      go : (b : Bool) → is_txn s.id id ≡ b → (r ≡ s) ⊎ Has r ss → (Has r ss → list_of id (map made_in ss) ≡ Some (made r)) → cond b (Some (made s)) (list_of id (map made_in ss)) ≡ Some (made r)
      go true e k ih = ap (λ (x : Row). Some (made x)) (a.0 (is_txn-true s.id id e))
      go false e (inl z) ih = absurd (false≢true (sym e ∙ is_txn-eq s.id id (ap (λ (x : Row). x.id) (sym z) ∙ is)))
      go false e (inr k) ih = ih k

  none_made : (id : TxnId) (rs : List Row) → AllByRecursion (λ s. is_txn s.id id ≡ false) rs → list_of id (map made_in rs) ≡ None
  none_made id [] a = refl
  none_made id (s ∷ ss) a = ap (λ b. cond b (Some (made s)) (list_of id (map made_in ss))) a.0 ∙ none_made id ss a.1

  module _ (numbers : List (TxnId × ℕ)) (rs : List Row) (stamp : ℕ) (t : IsRowTable numbers rs stamp) (id : TxnId) where
    -- no row is of it
    pub absent_made : lookup (is_txn id) numbers ≡ None → list_of id (map made_in (rows_in_turn rs)) ≡ None
    absent_made absent =
        none_made id (rows_in_turn rs) (turn_all (λ s. is_txn s.id id ≡ false) rs (λ k h. none k (told_live numbers rs stamp t k h) (is_txn (row_in rs k).id id) refl))
      where
        none : (k : ℕ) → 0 < (row_in rs k).birth → (b : Bool) → is_txn (row_in rs k).id id ≡ b → b ≡ false
        none k live true e =
            let no : None ≡ Some k = sym absent ∙ (ap (λ q. lookup (is_txn q) numbers) (sym (is_txn-true (row_in rs k).id id e)) ∙ t.each k live) in
            absurd (cc)
        none k live false e = refl

    -- the row at this number is
    module _ (n : ℕ) (here : lookup (is_txn id) numbers ≡ Some n) where
      row : IsRowOf rs n id
      row = t.found id n here

      same_row : (k : ℕ) → 0 < (row_in rs k).birth → (row_in rs k).id ≡ id → k ≡ n
      same_row k live is =
          let two : Some n ≡ Some k = sym here ∙ (ap (λ q. lookup (is_txn q) numbers) (sym is) ∙ t.each k live) in
          let one : n ≡ k = cc in
          sym one

      pub here_made : list_of id (map made_in (rows_in_turn rs)) ≡ cond (is_told (row_in rs n)) (Some (made (row_in rs n))) None
      here_made = go (is_told (row_in rs n)) refl
        where
          go : (b : Bool) → is_told (row_in rs n) ≡ b → list_of id (map made_in (rows_in_turn rs)) ≡ cond b (Some (made (row_in rs n))) None
          go true e =
              found_made id (row_in rs n) (rows_in_turn rs) row.is (turn_has rs n (row_within rs n row.live) e)
              (turn_all (λ s. s.id ≡ id → s ≡ row_in rs n) rs (λ k h is. ap (row_in rs) (same_row k (told_live numbers rs stamp t k h) is)))
          go false e =
              none_made id (rows_in_turn rs) (turn_all (λ s. is_txn s.id id ≡ false) rs (λ k h. other k h (is_txn (row_in rs k).id id) refl))
            where
              other : (k : ℕ) → is_told (row_in rs k) ≡ true → (b : Bool) → is_txn (row_in rs k).id id ≡ b → b ≡ false
              other k h true i =
                  let z : k ≡ n = same_row k (told_live numbers rs stamp t k h) (is_txn-true (row_in rs k).id id i) in
                  absurd (false≢true (sym e ∙ (ap (λ m. is_told (row_in rs m)) (sym z) ∙ h)))
              other k h false i = refl

-- ---- the list as it came

module _ (numbers : List (TxnId × ℕ)) (rs : List Row) (stamp : ℕ) (t : IsRowTable numbers rs stamp) (id : TxnId) where
  pub absent_list : lookup (is_txn id) numbers ≡ None → list_of id (known_of rs) ≡ None
  absent_list absent = absent_made (λ r. r.edges) numbers rs stamp t id absent

  module _ (n : ℕ) (here : lookup (is_txn id) numbers ≡ Some n) where
    pub here_list : list_of id (known_of rs) ≡ told_list (row_in rs n)
    here_list = here_made (λ r. r.edges) numbers rs stamp t id n here

    -- where no list is known of it, the row has none
    pub untold_row : list_of id (known_of rs) ≡ None → (row_in rs n).turn ≡ 0
    untold_row none = go (is_told (row_in rs n)) refl
      where
        go : (b : Bool) → is_told (row_in rs n) ≡ b → (row_in rs n).turn ≡ 0
        go true e =
            let no : None ≡ Some (row_in rs n).edges = sym none ∙ (here_list ∙ ap (λ b. cond b (Some (row_in rs n).edges) None) e) in
            absurd (cc)
        go false e = zero_turn (row_in rs n).turn e
          where
            zero_turn : (k : ℕ) → nat_lt 0 k ≡ false → k ≡ 0
            zero_turn k h = grind (arith, nat_tests)
