-- Rows where the links to one of them are not followed
use Rattle.std.proofs.Common.{◌≡◌, ◌<◌, ◌≤◌, ◌==◌, ℕ, zero, suc, Bool, true, false, not, cond, List, [], ◌∷◌, ◌++◌, length, take, drop, map}
use Rattle.std.proofs.Common.{filter, append-nil, Option, Some, None, refl, sym, ap, ◌∙◌, subst}
use Rattle.std.proofs.lemmas.Bool.{false≢true, eqb-true, eqb-false}
use Rattle.std.proofs.lemmas.List.{drop_all, take_all}
use Rattle.std.specs.Prelude.{nat_lt}
use Rattle.std.specs.Map.{lookup}
use Rattle.std.specs.List.{AllByRecursion}
use Rattle.roc_sequence.specs.Lists.{Has}
use Rattle.roc_sequence.proofs.Members.{has_map, from_has_map}
use Rattle.roc_base.specs.declared.id.TxnId.{TxnId}
use Rattle.roc_base.specs.TxnId.{is_txn}
use Rattle.roc_base.specs.Equalities.{is_txn-true}
use Rattle.roc_base.proofs.Ids.{is_txn-eq}
use Rattle.roc_base.specs.Edge.{Dependency}
use Rattle.roc_step.specs.Links.{without_links}
use Rattle.roc_server_rows.specs.declared.rows.Link.{Link}
use Rattle.roc_server_rows.specs.declared.rows.Row.{Row}
use Rattle.roc_server_rows.specs.Rows.{row_in, followed, rows_in_turn, put_row, is_alive, is_told, known_in, known_of, links_in, row_links, AreNamed, IsRowTable}
use Rattle.roc_server_rows.specs.LinksBut.{links_but}
use Rattle.roc_server_rows.specs.Except.{is_except, link_but, no_link, row_but, rows_but, IsExceptLive}
use Rattle.roc_server_rows.proofs.Alive.{alive_same, alive_live}
use Rattle.roc_server_rows.proofs.Made.{told_names}

module _ (except : Option ℕ) where
  -- ---- what stays of a row

  pub row_at_but : (rows : List Row) (n : ℕ) → row_in (rows_but except rows) n ≡ row_but except (row_in rows n)
  row_at_but [] n = refl
  row_at_but (r ∷ rs) zero = refl
  row_at_but (r ∷ rs) (suc n) = row_at_but rs n

  pub told_but : (rows : List Row) (n : ℕ) → is_told (row_in (rows_but except rows) n) ≡ is_told (row_in rows n)
  told_but rows n = ap is_told (row_at_but rows n)

  pub alive_but : (rows : List Row) (l : Link) → is_alive (rows_but except rows) l ≡ is_alive rows l
  alive_but rows l = alive_same (rows_but except rows) rows l (ap (λ (r : Row). r.birth) (row_at_but rows l.at))

  -- ---- what stays of its links

  -- one that is alive leads elsewhere
  pub but_alive : (rows : List Row) (l : Link) → is_alive rows (link_but except l) ≡ true → (is_except except l.at ≡ false) × (link_but except l ≡ l)
  but_alive rows l h = go (is_except except l.at) refl h
    where
      go : (b : Bool) → is_except except l.at ≡ b → is_alive rows (cond b no_link l) ≡ true → (is_except except l.at ≡ false) × (link_but except l ≡ l)
      go true e k = absurd (false≢true k)
      go false e k = (e, ap (λ b. cond b no_link l) e)

  pub has_but : (rows : List Row) (n : ℕ) (l : Link) → Has l (row_in (rows_but except rows) n).names → is_alive (rows_but except rows) l ≡ true
      → Has l (row_in rows n).names × (is_alive rows l ≡ true) × (is_except except l.at ≡ false)
  has_but rows n l h alive =
      let here : Has l (map (link_but except) (row_in rows n).names) = subst (λ (r : Row). Has l r.names) (row_at_but rows n) h in
      let w = from_has_map (link_but except) l (row_in rows n).names here in
      let live : is_alive rows l ≡ true = sym (alive_but rows l) ∙ alive in
      let k = but_alive rows w.0 (subst (λ (x : Link). is_alive rows x ≡ true) w.2 live) in
      let is : l ≡ w.0 = w.2 ∙ k.1 in
      (subst (λ (x : Link). Has x (row_in rows n).names) (sym is) w.1, live, ap (λ (x : Link). is_except except x.at) is ∙ k.0)

  pub but_has : (rows : List Row) (n : ℕ) (l : Link) → Has l (row_in rows n).names → is_except except l.at ≡ false → Has l (row_in (rows_but except rows) n).names
  but_has rows n l h e =
      subst (λ (r : Row). Has l r.names) (sym (row_at_but rows n))
      (subst (λ (x : Link). Has x (map (link_but except) (row_in rows n).names)) (ap (λ b. cond b no_link l) e) (has_map (link_but except) l (row_in rows n).names h))

  -- ---- the same rows by turn

  put_but : (r : Row) (ss : List Row) → put_row (row_but except r) (map (row_but except) ss) ≡ map (row_but except) (put_row r ss)
  put_but r [] = refl
  put_but r (s ∷ ss) = go (nat_lt r.turn s.turn) (put_but r ss)
    where
      go : (b : Bool) → put_row (row_but except r) (map (row_but except) ss) ≡ map (row_but except) (put_row r ss)
          → cond b (row_but except r ∷ row_but except s ∷ map (row_but except) ss) (row_but except s ∷ put_row (row_but except r) (map (row_but except) ss))
          ≡ map (row_but except) (cond b (r ∷ s ∷ ss) (s ∷ put_row r ss))
      go true i = refl
      go false i = ap (λ l. row_but except s ∷ l) i

  pub turn_but : (rows : List Row) → rows_in_turn (rows_but except rows) ≡ map (row_but except) (rows_in_turn rows)
  turn_but [] = refl
  turn_but (r ∷ rs) = go (is_told r) (turn_but rs)
    where
      go : (b : Bool) → rows_in_turn (rows_but except rs) ≡ map (row_but except) (rows_in_turn rs)
          → cond b (put_row (row_but except r) (rows_in_turn (rows_but except rs))) (rows_in_turn (rows_but except rs)) ≡ map (row_but except) (cond b (put_row r (rows_in_turn rs)) (rows_in_turn rs))
      go true i = ap (put_row (row_but except r)) i ∙ put_but r (rows_in_turn rs)
      go false i = i

  known_but : (rs : List Row) → map known_in (map (row_but except) rs) ≡ map known_in rs
  known_but [] = refl
  known_but (r ∷ rs) = ap (λ ks. known_in r ∷ ks) (known_but rs)

  pub known_of_but : (rows : List Row) → known_of (rows_but except rows) ≡ known_of rows
  known_of_but rows = ap (map known_in) (turn_but rows) ∙ known_but (rows_in_turn rows)

  -- ---- a table stays one

  names_but : (rows : List Row) (stamp : ℕ) → 0 < stamp → (ds : List Dependency) (ls : List Link) → AreNamed rows stamp ds ls → AreNamed (rows_but except rows) stamp ds (map (link_but except) ls)
  names_but rows stamp some [] [] a = tt
  names_but rows stamp some [] (l ∷ ls) a = absurd a
  names_but rows stamp some (d ∷ ds) [] a = absurd a
  names_but rows stamp some (d ∷ ds) (l ∷ ls) a = (
    record {
      born = born (is_except except l.at);
      right = λ h.
          let live : is_alive rows (link_but except l) ≡ true = sym (alive_but rows (link_but except l)) ∙ h in
          let k = but_alive rows l live in
          let was : is_alive rows l ≡ true = subst (λ (x : Link). is_alive rows x ≡ true) k.1 live in
          ap (λ (r : Row). r.id) (row_at_but rows (link_but except l).at) ∙ (ap (λ (x : Link). (row_in rows x.at).id) k.1 ∙ a.0.right was);
    },
    names_but rows stamp some ds ls a.1,
  )
    where
      born : (b : Bool) → (cond b no_link l).birth < stamp
      born true = some
      born false = a.0.born

  pub table_but : (numbers : List (TxnId × ℕ)) (rows : List Row) (stamp : ℕ) → IsRowTable numbers rows stamp → IsRowTable numbers (rows_but except rows) stamp
  table_but numbers rows stamp t =
      record {
        some = t.some;
        found = λ id n h. let w = t.found id n h in record { live = subst (λ (r : Row). 0 < r.birth) (sym (row_at_but rows n)) w.live; is = ap (λ (r : Row). r.id) (row_at_but rows n) ∙ w.is };
        each = λ n h. ap (λ (r : Row). lookup (is_txn r.id) numbers) (row_at_but rows n) ∙ t.each n (subst (λ (r : Row). 0 < r.birth) (row_at_but rows n) h);
        told_live = λ n h. subst (λ (r : Row). 0 < r.birth) (sym (row_at_but rows n)) (t.told_live n (subst (λ (r : Row). 0 < r.turn) (row_at_but rows n) h));
        births = λ n. subst (λ (r : Row). r.birth < stamp) (sym (row_at_but rows n)) (t.births n);
        turns = λ n. subst (λ (r : Row). r.turn < stamp) (sym (row_at_but rows n)) (t.turns n);
        names = λ n. subst (λ (r : Row). AreNamed (rows_but except rows) stamp r.edges r.names) (sym (row_at_but rows n))
            (names_but rows stamp t.some (row_in rows n).edges (row_in rows n).names (t.names n));
      }

-- ---- what is followed then

module _ (numbers : List (TxnId × ℕ)) (rows : List Row) (stamp : ℕ) (t : IsRowTable numbers rows stamp) (m : ℕ) (live : 0 < (row_in rows m).birth) where
  abbrev id_but : TxnId
  id_but = (row_in rows m).id

  abbrev is_other : Dependency → Bool
  is_other d = not (is_txn d.from id_but)

  other_row : (n : ℕ) → 0 < (row_in rows n).birth → (n == m) ≡ false → is_txn (row_in rows n).id id_but ≡ false
  other_row n here e = go (is_txn (row_in rows n).id id_but) refl
    where
      go : (b : Bool) → is_txn (row_in rows n).id id_but ≡ b → b ≡ false
      go true k =
          let two : Some m ≡ Some n = sym (t.each m live) ∙ (ap (λ q. lookup (is_txn q) numbers) (sym (is_txn-true (row_in rows n).id id_but k)) ∙ t.each n here) in
          let one : m ≡ n = cc in
          absurd (eqb-false n m e (sym one))
      go false k = refl

  followed_but : (ds : List Dependency) (ls : List Link) → AreNamed rows stamp ds ls → followed (rows_but (Some m) rows) ds (map (link_but (Some m)) ls) ≡ filter is_other (followed rows ds ls)
  followed_but [] ls a = refl
  followed_but (d ∷ ds) [] a = refl
  followed_but (d ∷ ds) (l ∷ ls) a =
      ap (λ b. cond b (d ∷ after) after) (alive_but (Some m) rows (link_but (Some m) l)) ∙ go (l.at == m) (is_alive rows l) refl refl (followed_but ds ls a.1)
    where
      after : List Dependency
      after = followed (rows_but (Some m) rows) ds (map (link_but (Some m)) ls)

      before : List Dependency
      before = followed rows ds ls

      go : (b k : Bool) → (l.at == m) ≡ b → is_alive rows l ≡ k → after ≡ filter is_other before
          → cond (is_alive rows (cond b no_link l)) (d ∷ after) after ≡ filter is_other (cond k (d ∷ before) before)
      go true true e f i =
          let is : d.from ≡ id_but = sym (a.0.right f) ∙ ap (λ n. (row_in rows n).id) (eqb-true l.at m e) in
          i ∙ sym (ap (λ b. cond (not b) (d ∷ filter is_other before) (filter is_other before)) (is_txn-eq d.from id_but is))
      go true false e f i = i
      go false true e f i =
          let is : is_txn d.from id_but ≡ false = ap (λ q. is_txn q id_but) (sym (a.0.right f)) ∙ other_row l.at (alive_live rows l f) e in
          ap (λ b. cond b (d ∷ after) after) f ∙ (ap (λ es. d ∷ es) i ∙ sym (ap (λ b. cond (not b) (d ∷ filter is_other before) (filter is_other before)) is))
      go false false e f i = ap (λ b. cond b (d ∷ after) after) f ∙ i

  made_but : (rs : List Row) → AllByRecursion (λ r. AreNamed rows stamp r.edges r.names) rs
      → map (links_in (rows_but (Some m) rows)) (map (row_but (Some m)) rs) ≡ map (without_links (λ q. is_txn q id_but)) (map (links_in rows) rs)
  made_but [] a = refl
  made_but (r ∷ rs) a =
      λ i. record { of = r.id; edges = followed_but r.edges r.names a.0 i } ∷ made_but rs a.1 i

  pub one_but : row_links (rows_but (Some m) rows) ≡ links_but (Some m) rows
  one_but = ap (map (links_in (rows_but (Some m) rows))) (turn_but (Some m) rows) ∙ made_but (rows_in_turn rows) (told_names numbers rows stamp t)

-- where none is left out, all is as it is
links_same : (ls : List Link) → map (link_but None) ls ≡ ls
links_same [] = refl
links_same (l ∷ ls) = ap (λ xs. l ∷ xs) (links_same ls)

pub rows_same : (rows : List Row) → rows_but None rows ≡ rows
rows_same [] = refl
rows_same (r ∷ rs) = λ i. record { id = r.id; birth = r.birth; turn = r.turn; edges = r.edges; names = links_same r.names i; next = r.next } ∷ rows_same rs i

pub links_of_but : (numbers : List (TxnId × ℕ)) (rows : List Row) (stamp : ℕ) → IsRowTable numbers rows stamp → (except : Option ℕ) → IsExceptLive except rows
    → row_links (rows_but except rows) ≡ links_but except rows
links_of_but numbers rows stamp t None live = ap row_links (rows_same rows)
links_of_but numbers rows stamp t (Some m) live = one_but numbers rows stamp t m live

-- ---- a list that is changed element by element

pub all_over : {A : Type 0} (f : A → A) (xs ys : List A) (i : ℕ) → ys ≡ map f (take i xs) ++ drop i xs → length xs ≤ i → ys ≡ map f xs
all_over f xs ys i is all = is ∙ ((λ j. map f (take_all i xs all j) ++ drop_all i xs all j) ∙ append-nil (map f xs))
