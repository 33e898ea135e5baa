-- A list is taken back: its row stays, for those that name it
use Rattle.std.proofs.Common.{◌≡◌, ◌≢◌, ◌<◌, inl, inr, ℕ, Bool, true, false, not, cond, List, [], ◌∷◌, set, map, filter, Some, None, refl, sym, ap, ◌∙◌, subst, arith}
use Rattle.std.proofs.lemmas.List.{get_or-set_same, get_or-set_other}
use Rattle.std.specs.Prelude.{nat_lt}
use Rattle.std.specs.Map.{lookup}
use Rattle.std.proofs.lemmas.Bool.{cases_eq}
use Rattle.roc_base.specs.declared.id.TxnId.{TxnId}
use Rattle.roc_base.specs.TxnId.{is_txn}
use Rattle.roc_base.specs.Equalities.{is_txn-true}
use Rattle.roc_base.proofs.Ids.{is_txn-eq}
use Rattle.roc_base.specs.Edge.{Dependency}
use Rattle.roc_server_rows.specs.declared.rows.Link.{Link}
use Rattle.roc_server_rows.specs.declared.rows.Row.{Row}
use Rattle.roc_step.specs.Carried.{list_with}
use Rattle.roc_server_rows.specs.Changes.{untold}
use Rattle.roc_server_rows.specs.Rows.{no_row, row_in, is_alive, is_told, followed, rows_in_turn, known_in, links_in, known_of, row_links, lists_by, AreNamed, IsRowOf, IsRowTable}
use Rattle.roc_server_rows.specs.Marks.{IsTakenBack}
use Rattle.roc_server_rows.proofs.Turns.{turn_kept, turn_without}
use Rattle.roc_server_rows.proofs.Alive.{row_within, alive_same, told_live}
use Rattle.roc_server_rows.proofs.Ended.{filter_made, is_other}

module _ (numbers : List (TxnId × ℕ)) (rows : List Row) (stamp : ℕ) (t : IsRowTable numbers rows stamp) (id : TxnId) where
  -- where no row is of it
  pub untold_none : lookup (is_txn id) numbers ≡ None → lists_by rows ≡ untold id (lists_by rows)
  untold_none absent =
      let known : known_of rows ≡ filter (λ k. not (is_txn k.of id)) (known_of rows)
      = ap (map known_in) (sym turn) ∙ filter_made known_in (is_other id) (λ k. not (is_txn k.of id)) (λ r. refl) (rows_in_turn rows) in
      let links : row_links rows ≡ filter (λ k. not (is_txn k.of id)) (row_links rows)
      = ap (map (links_in rows)) (sym turn) ∙ filter_made (links_in rows) (is_other id) (λ k. not (is_txn k.of id)) (λ r. refl) (rows_in_turn rows) in
      λ i. record { known = known i; links = links i }
    where
      none : (n : ℕ) → 0 < (row_in rows n).birth → (b : Bool) → is_txn (row_in rows n).id id ≡ b → b ≡ false
      none n live true e =
          let no : None ≡ Some n = sym absent ∙ (ap (λ q. lookup (is_txn q) numbers) (sym (is_txn-true (row_in rows n).id id e)) ∙ t.each n live) in
          absurd (cc)
      none n live false e = refl

      turn : filter (is_other id) (rows_in_turn rows) ≡ rows_in_turn rows
      turn = turn_kept (is_other id) rows (λ n h. ap not (none n (told_live numbers rows stamp t n h) (is_txn (row_in rows n).id id) refl))

  module _ (n : ℕ) (here : lookup (is_txn id) numbers ≡ Some n) (r : Row) (own : r.id ≡ id) (birth : r.birth ≡ (row_in rows n).birth)
      (turn : r.turn ≡ 0) (no_edges : r.edges ≡ []) (no_names : r.names ≡ []) where
    abbrev new : List Row
    new = set rows n r

    row : IsRowOf rows n id
    row = t.found id n here

    new_own : row_in new n ≡ r
    new_own = get_or-set_same rows n r no_row (row_within rows n row.live)

    new_other : (m : ℕ) → m ≢ n → row_in new m ≡ row_in rows m
    new_other m d = get_or-set_other rows n m r no_row d

    ids_stay : (m : ℕ) → (row_in new m).id ≡ (row_in rows m).id
    ids_stay m = elim (cases_eq m n) [
      | inl e ↦ ap (λ j. (row_in new j).id) e ∙ (ap (λ (x : Row). x.id) new_own ∙ (own ∙ (sym row.is ∙ ap (λ j. (row_in rows j).id) (sym e))))
      | inr d ↦ ap (λ (x : Row). x.id) (new_other m d)
    ]

    births_stay : (m : ℕ) → (row_in new m).birth ≡ (row_in rows m).birth
    births_stay m = elim (cases_eq m n) [
      | inl e ↦ ap (λ j. (row_in new j).birth) e ∙ (ap (λ (x : Row). x.birth) new_own ∙ (birth ∙ ap (λ j. (row_in rows j).birth) (sym e)))
      | inr d ↦ ap (λ (x : Row). x.birth) (new_other m d)
    ]

    alive_stays : (l : Link) → is_alive new l ≡ is_alive rows l
    alive_stays l = alive_same new rows l (births_stay l.at)

    followed_stays : (ds : List Dependency) (ls : List Link) → followed new ds ls ≡ followed rows ds ls
    followed_stays [] ls = refl
    followed_stays (d ∷ ds) [] = refl
    followed_stays (d ∷ ds) (l ∷ ls) =
        ap (λ b. cond b (d ∷ followed new ds ls) (followed new ds ls)) (alive_stays l) ∙ ap (λ es. cond (is_alive rows l) (d ∷ es) es) (followed_stays ds ls)

    pub untold_back : IsTakenBack n rows (set rows n r)
    untold_back = record { own = ap is_told new_own ∙ ap (nat_lt 0) turn; others = new_other; links = alive_stays }

    links_stay : (rs : List Row) → map (links_in new) rs ≡ map (links_in rows) rs
    links_stay [] = refl
    links_stay (x ∷ xs) =
        ap (λ es. list_with x.id es ∷ map (links_in new) xs) (followed_stays x.edges x.names) ∙ ap (λ ks. list_with x.id (followed rows x.edges x.names) ∷ ks) (links_stay xs)

    names_stay : (ds : List Dependency) (ls : List Link) → AreNamed rows stamp ds ls → AreNamed new stamp ds ls
    names_stay [] [] a = tt
    names_stay [] (l ∷ ls) a = absurd a
    names_stay (d ∷ ds) [] a = absurd a
    names_stay (d ∷ ds) (l ∷ ls) a = (record { born = a.0.born; right = λ h. ids_stay l.at ∙ a.0.right (sym (alive_stays l) ∙ h) }, names_stay ds ls a.1)

    other : (m : ℕ) → 0 < (row_in rows m).birth → m ≢ n → (b : Bool) → is_txn (row_in rows m).id id ≡ b → b ≡ false
    other m live d true e =
        let two : Some n ≡ Some m = sym here ∙ (ap (λ q. lookup (is_txn q) numbers) (sym (is_txn-true (row_in rows m).id id e)) ∙ t.each m live) in
        let one : n ≡ m = cc in
        absurd (d (sym one))
    other m live d false e = refl

    turns : rows_in_turn new ≡ filter (is_other id) (rows_in_turn rows)
    turns =
        turn_without (is_other id) rows n r (row_within rows n row.live) (ap (nat_lt 0) turn) (ap not (is_txn-eq (row_in rows n).id id row.is))
        (λ k d h. ap not (other k (told_live numbers rows stamp t k h) d (is_txn (row_in rows k).id id) refl))

    pub untold_lists : lists_by (set rows n r) ≡ untold id (lists_by rows)
    untold_lists =
        let known : known_of new ≡ filter (λ k. not (is_txn k.of id)) (known_of rows)
        = ap (map known_in) turns ∙ filter_made known_in (is_other id) (λ k. not (is_txn k.of id)) (λ r. refl) (rows_in_turn rows) in
        let links : row_links new ≡ filter (λ k. not (is_txn k.of id)) (row_links rows)
        = ap (map (links_in new)) turns ∙ (links_stay (filter (is_other id) (rows_in_turn rows))
        ∙ filter_made (links_in rows) (is_other id) (λ k. not (is_txn k.of id)) (λ r. refl) (rows_in_turn rows)) in
        λ i. record { known = known i; links = links i }

    new_at : (P : Row → Type 0) → P r → ((m : ℕ) → P (row_in rows m)) → (m : ℕ) → P (row_in new m)
    new_at P mine was m = elim (cases_eq m n) [
      | inl e ↦ subst P (sym (ap (row_in new) e ∙ new_own)) mine
      | inr d ↦ subst P (sym (new_other m d)) (was m)
    ]

    pub untold_table : IsRowTable numbers (set rows n r) stamp
    untold_table =
        record {
          some = t.some;
          found = λ q m h. let w = t.found q m h in record { live = subst (λ b. 0 < b) (sym (births_stay m)) w.live; is = ids_stay m ∙ w.is };
          each = λ m h. ap (λ q. lookup (is_txn q) numbers) (ids_stay m) ∙ t.each m (subst (λ b. 0 < b) (births_stay m) h);
          told_live = new_at (λ x. 0 < x.turn → 0 < x.birth) (λ h. absurd (omega (arith, h, turn))) t.told_live;
          births = λ m. subst (λ b. b < stamp) (sym (births_stay m)) (t.births m);
          turns = new_at (λ x. x.turn < stamp) (omega (arith, turn, t.some)) t.turns;
          names = new_at (λ x. AreNamed new stamp x.edges x.names) (subst (λ es. AreNamed new stamp es r.names) (sym no_edges) (subst (AreNamed new stamp []) (sym no_names) tt))
              (λ m. names_stay (row_in rows m).edges (row_in rows m).names (t.names m));
        }
