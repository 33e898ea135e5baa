-- A row ends: each link that names it is done
use Rattle.std.proofs.Common.{◌≡◌, ◌≢◌, ◌<◌, inl, inr, ℕ, Bool, true, false, not, cond, List, [], ◌∷◌, set, map, filter, Some, None, refl, sym, ap, ◌∙◌, subst, arith}
use Rattle.std.proofs.lemmas.Bool.{false≢true, cases_eq}
use Rattle.std.proofs.lemmas.Bool.Decides.{nat_tests}
use Rattle.std.proofs.lemmas.List.{get_or-set_same, get_or-set_other}
use Rattle.std.specs.Prelude.{nat_lt}
use Rattle.std.specs.Map.{lookup}
use Rattle.std.specs.List.{AllByRecursion}
use Rattle.roc_base.specs.declared.id.TxnId.{TxnId}
use Rattle.roc_base.specs.TxnId.{is_txn}
use Rattle.roc_base.specs.Equalities.{is_txn-true}
use Rattle.roc_base.proofs.Ids.{is_txn-eq}
use Rattle.roc_base.specs.Edge.{Dependency}
use Rattle.roc_server_rows.specs.declared.rows.Link.{Link}
use Rattle.roc_server_rows.specs.declared.rows.Row.{Row}
use Rattle.roc_step.specs.Carried.{list_with}
use Rattle.roc_step.specs.Links.{without_links}
use Rattle.roc_server_rows.specs.Changes.{lists_ended}
use Rattle.roc_server_rows.specs.Rows.{no_row, row_in, is_alive, followed, rows_in_turn, known_in, links_in, known_of, row_links, lists_by, AreNamed, IsRowOf, IsRowTable}
use Rattle.roc_server_rows.proofs.Turns.{turn_without, turn_kept}
use Rattle.roc_server_rows.proofs.Alive.{row_within, alive_same, alive_live, dead_at, told_live}
use Rattle.roc_server_rows.proofs.Made.{told_names}

-- what is made of the elements that pass
pub filter_made : {A B : Type 0} (f : A → B) (p : A → Bool) (q : B → Bool) → ((a : A) → p a ≡ q (f a)) → (xs : List A) → map f (filter p xs) ≡ filter q (map f xs)
filter_made f p q h [] = refl
filter_made f p q h (x ∷ xs) = go (p x) (q (f x)) (h x) (filter_made f p q h xs)
  where
    go : (b k : Bool) → b ≡ k → map f (filter p xs) ≡ filter q (map f xs) → map f (cond b (x ∷ filter p xs) (filter p xs)) ≡ cond k (f x ∷ filter q (map f xs)) (filter q (map f xs))
    go true true e i = ap (λ l. f x ∷ l) i
    go true false e i = absurd (false≢true (sym e))
    go false true e i = absurd (false≢true e)
    go false false e i = i

filtered : {A : Type 0} (P : A → Type 0) (p : A → Bool) (xs : List A) → AllByRecursion P xs → AllByRecursion P (filter p xs)
filtered P p [] a = tt
filtered P p (x ∷ xs) a = go (p x) (filtered P p xs a.1)
  where
    go : (b : Bool) → AllByRecursion P (filter p xs) → AllByRecursion P (cond b (x ∷ filter p xs) (filter p xs))
    go true i = (a.0, i)
    go false i = i

-- the rows of others than a transaction
abbrev pub is_other : TxnId → Row → Bool
is_other id r = not (is_txn r.id id)

-- ---- each link that names a transaction is dead then, and no other is

-- this is so of the rows then
pub record AreOthers (id : TxnId) (old new : List Row) : Type 0 where
  pub own : (l : Link) → is_alive old l ≡ true → (row_in old l.at).id ≡ id → is_alive new l ≡ false
  pub stays : (l : Link) → is_alive old l ≡ true → is_txn (row_in old l.at).id id ≡ false → is_alive new l ≡ true
  pub dead : (l : Link) → is_alive old l ≡ false → is_alive new l ≡ false
  pub turn : rows_in_turn new ≡ filter (is_other id) (rows_in_turn old)

module _ (id : TxnId) (old new : List Row) (stamp : ℕ) (o : AreOthers id old new) where
  abbrev stays_followed : Dependency → Bool
  stays_followed d = not (is_txn d.from id)

  ended_followed : (ds : List Dependency) (ls : List Link) → AreNamed old stamp ds ls → followed new ds ls ≡ filter stays_followed (followed old ds ls)
  ended_followed [] ls a = refl
  ended_followed (d ∷ ds) [] a = refl
  ended_followed (d ∷ ds) (l ∷ ls) a = go (is_alive old l) (is_txn d.from id) refl refl (ended_followed ds ls a.1)
    where
      go : (b k : Bool) → is_alive old l ≡ b → is_txn d.from id ≡ k → followed new ds ls ≡ filter stays_followed (followed old ds ls)
          → cond (is_alive new l) (d ∷ followed new ds ls) (followed new ds ls) ≡ filter stays_followed (cond b (d ∷ followed old ds ls) (followed old ds ls))
      go true true e k i =
          let is : (row_in old l.at).id ≡ id = a.0.right e ∙ is_txn-true d.from id k in
          ap (λ b. cond b (d ∷ followed new ds ls) (followed new ds ls)) (o.own l e is)
          ∙ (i ∙ sym (ap (λ b. cond (not b) (d ∷ filter stays_followed (followed old ds ls)) (filter stays_followed (followed old ds ls))) k))
      go true false e k i =
          let is : is_txn (row_in old l.at).id id ≡ false = ap (λ t. is_txn t id) (a.0.right e) ∙ k in
          ap (λ b. cond b (d ∷ followed new ds ls) (followed new ds ls)) (o.stays l e is)
          ∙ (ap (λ es. d ∷ es) i ∙ sym (ap (λ b. cond (not b) (d ∷ filter stays_followed (followed old ds ls)) (filter stays_followed (followed old ds ls))) k))
      go false k e j i = ap (λ b. cond b (d ∷ followed new ds ls) (followed new ds ls)) (o.dead l e) ∙ i

  ended_links : (rs : List Row) → AllByRecursion (λ r. AreNamed old stamp r.edges r.names) rs → map (links_in new) rs ≡ map (without_links (λ t. is_txn t id)) (map (links_in old) rs)
  ended_links [] a = refl
  ended_links (r ∷ rs) a =
      ap (λ es. list_with r.id es ∷ map (links_in new) rs) (ended_followed r.edges r.names a.0)
      ∙ ap (λ ks. list_with r.id (filter stays_followed (followed old r.edges r.names)) ∷ ks) (ended_links rs a.1)

  pub ended_lists : AllByRecursion (λ r. AreNamed old stamp r.edges r.names) (rows_in_turn old) → lists_by new ≡ lists_ended id (lists_by old)
  ended_lists a =
      let known : known_of new ≡ filter (λ k. not (is_txn k.of id)) (known_of old)
      = ap (map known_in) o.turn ∙ filter_made known_in (is_other id) (λ k. not (is_txn k.of id)) (λ r. refl) (rows_in_turn old) in
      let links : row_links new ≡ map (without_links (λ t. is_txn t id)) (filter (λ k. not (is_txn k.of id)) (row_links old))
      = ap (map (links_in new)) o.turn
      ∙ (ended_links (filter (is_other id) (rows_in_turn old)) (filtered (λ r. AreNamed old stamp r.edges r.names) (is_other id) (rows_in_turn old) a)
      ∙ ap (map (without_links (λ t. is_txn t id))) (filter_made (links_in old) (is_other id) (λ k. not (is_txn k.of id)) (λ r. refl) (rows_in_turn old))) in
      λ i. record { known = known i; links = links i }

-- ---- a transaction without a row

module _ (numbers : List (TxnId × ℕ)) (old : List Row) (stamp : ℕ) (t : IsRowTable numbers old stamp) (id : TxnId) (absent : lookup (is_txn id) numbers ≡ None) where
  none_is : (n : ℕ) → 0 < (row_in old n).birth → is_txn (row_in old n).id id ≡ false
  none_is n live = go (is_txn (row_in old n).id id) refl
    where
      go : (b : Bool) → is_txn (row_in old n).id id ≡ b → b ≡ false
      go true e =
          let no : None ≡ Some n = sym absent ∙ (ap (λ q. lookup (is_txn q) numbers) (sym (is_txn-true (row_in old n).id id e)) ∙ t.each n live) in
          absurd (cc)
      go false e = refl

  none_ended : AreOthers id old old
  none_ended =
      record {
        own = λ l e is. absurd (false≢true (sym (none_is l.at (alive_live old l e)) ∙ is_txn-eq (row_in old l.at).id id is));
        stays = λ l e is. e;
        dead = λ l e. e;
        turn = sym (turn_kept (is_other id) old (λ n h. ap not (none_is n (told_live numbers old stamp t n h))));
      }

  pub absent_links : row_links old ≡ map (without_links (λ t. is_txn t id)) (row_links old)
  absent_links = ended_links id old old stamp none_ended (rows_in_turn old) (told_names numbers old stamp t)

  pub absent_lists : lists_by old ≡ lists_ended id (lists_by old)
  absent_lists = ended_lists id old old stamp none_ended (told_names numbers old stamp t)

-- ---- a transaction with one

module _ (numbers : List (TxnId × ℕ)) (old : List Row) (stamp : ℕ) (t : IsRowTable numbers old stamp) (id : TxnId) (n : ℕ) (here : lookup (is_txn id) numbers ≡ Some n)
    (v : Row) (unborn : v.birth ≡ 0) (untold : v.turn ≡ 0) (no_edges : v.edges ≡ []) (no_names : v.names ≡ []) where
  abbrev new : List Row
  new = set old n v

  row : IsRowOf old n id
  row = t.found id n here

  end_own : row_in new n ≡ v
  end_own = get_or-set_same old n v no_row (row_within old n row.live)

  end_other : (m : ℕ) → m ≢ n → row_in new m ≡ row_in old m
  end_other m d = get_or-set_other old n m v no_row d

  -- no other row is of it
  other_is : (m : ℕ) → 0 < (row_in old m).birth → m ≢ n → is_txn (row_in old m).id id ≡ false
  other_is m live d = go (is_txn (row_in old m).id id) refl
    where
      go : (b : Bool) → is_txn (row_in old m).id id ≡ b → b ≡ false
      go true e =
          let two : Some n ≡ Some m = sym here ∙ (ap (λ q. lookup (is_txn q) numbers) (sym (is_txn-true (row_in old m).id id e)) ∙ t.each m live) in
          let one : n ≡ m = cc in
          absurd (d (sym one))
      go false e = refl

  end_dead : (l : Link) → l.at ≡ n → is_alive new l ≡ false
  end_dead l e = dead_at new l (ap (λ m. (row_in new m).birth) e ∙ (ap (λ (x : Row). x.birth) end_own ∙ unborn))

  end_same : (l : Link) → l.at ≢ n → is_alive new l ≡ is_alive old l
  end_same l d = alive_same new old l (ap (λ (x : Row). x.birth) (end_other l.at d))

  all_ended : AreOthers id old new
  all_ended =
      record {
        own = λ l e is. elim (cases_eq l.at n) [
          | inl z ↦ end_dead l z
          | inr d ↦ absurd (false≢true (sym (other_is l.at (alive_live old l e) d) ∙ is_txn-eq (row_in old l.at).id id is))
        ];
        stays = λ l e is. elim (cases_eq l.at n) [
          | inl z ↦ absurd (false≢true (sym is ∙ is_txn-eq (row_in old l.at).id id (ap (λ m. (row_in old m).id) z ∙ row.is)))
          | inr d ↦ end_same l d ∙ e
        ];
        dead = λ l e. elim (cases_eq l.at n) [ inl z ↦ end_dead l z | inr d ↦ end_same l d ∙ e ];
        turn = turn_without (is_other id) old n v (row_within old n row.live) (ap (nat_lt 0) untold) (ap not (is_txn-eq (row_in old n).id id row.is))
            (λ k d h. ap not (other_is k (told_live numbers old stamp t k h) d));
      }

  pub end_lists : lists_by (set old n v) ≡ lists_ended id (lists_by old)
  end_lists = ended_lists id old new stamp all_ended (told_names numbers old stamp t)

  end_names : (ds : List Dependency) (ls : List Link) → AreNamed old stamp ds ls → AreNamed new stamp ds ls
  end_names [] [] a = tt
  end_names [] (l ∷ ls) a = absurd a
  end_names (d ∷ ds) [] a = absurd a
  end_names (d ∷ ds) (l ∷ ls) a = (
    record {
      born = a.0.born;
      right = λ h. elim (cases_eq l.at n) [
        | inl z ↦ absurd (false≢true (sym (end_dead l z) ∙ h))
        | inr x ↦ ap (λ (r : Row). r.id) (end_other l.at x) ∙ a.0.right (sym (end_same l x) ∙ h)
      ];
    },
    end_names ds ls a.1,
  )

  module _ (numbers2 : List (TxnId × ℕ)) (kept : (q : TxnId) → lookup (is_txn q) numbers2 ≡ cond (is_txn id q) None (lookup (is_txn q) numbers)) where
    end_found : (q : TxnId) (m : ℕ) → lookup (is_txn q) numbers2 ≡ Some m → IsRowOf new m q
    end_found q m h = go (is_txn id q) refl
      where
        go : (b : Bool) → is_txn id q ≡ b → IsRowOf new m q
        go true e =
            let no : None ≡ Some m = sym (ap (λ b. cond b None (lookup (is_txn q) numbers)) e) ∙ (sym (kept q) ∙ h) in
            absurd (cc)
        go false e =
            let s : lookup (is_txn q) numbers ≡ Some m = sym (ap (λ b. cond b None (lookup (is_txn q) numbers)) e) ∙ (sym (kept q) ∙ h) in
            let w : IsRowOf old m q = t.found q m s in
            let d : m ≢ n = λ z. false≢true (sym e ∙ is_txn-eq id q (sym row.is ∙ (ap (λ k. (row_in old k).id) (sym z) ∙ w.is))) in
            let same : row_in new m ≡ row_in old m = end_other m d in
            record { live = subst (λ (x : Row). 0 < x.birth) (sym same) w.live; is = ap (λ (x : Row). x.id) same ∙ w.is }

    end_each : (m : ℕ) → 0 < (row_in new m).birth → lookup (is_txn (row_in new m).id) numbers2 ≡ Some m
    end_each m live = elim (cases_eq m n) [
      | inl e ↦
          let z : (row_in new m).birth ≡ 0 = ap (λ k. (row_in new k).birth) e ∙ (ap (λ (x : Row). x.birth) end_own ∙ unborn) in
          absurd (omega (arith, live, z))
      | inr d ↦
          let same : row_in new m ≡ row_in old m = end_other m d in
          let was : 0 < (row_in old m).birth = subst (λ (x : Row). 0 < x.birth) same live in
          ap (λ (x : Row). lookup (is_txn x.id) numbers2) same
          ∙ (kept (row_in old m).id ∙ (ap (λ b. cond b None (lookup (is_txn (row_in old m).id) numbers)) (turned (row_in old m).id (other_is m was d)) ∙ t.each m was))
    ]
      where
        turned : (q : TxnId) → is_txn q id ≡ false → is_txn id q ≡ false
        turned q e = grind (arith, nat_tests)

    end_at : (P : Row → Type 0) → P v → ((m : ℕ) → P (row_in old m)) → (m : ℕ) → P (row_in new m)
    end_at P own was m = elim (cases_eq m n) [
      | inl e ↦ subst P (sym (ap (row_in new) e ∙ end_own)) own
      | inr d ↦ subst P (sym (end_other m d)) (was m)
    ]

    pub end_table : IsRowTable numbers2 (set old n v) stamp
    end_table =
        record {
          some = t.some;
          found = end_found;
          each = end_each;
          told_live = end_at (λ x. 0 < x.turn → 0 < x.birth) (λ h. absurd (omega (arith, h, untold))) t.told_live;
          births = end_at (λ x. x.birth < stamp) (omega (arith, unborn, t.some)) t.births;
          turns = end_at (λ x. x.turn < stamp) (omega (arith, untold, t.some)) t.turns;
          names = end_at (λ x. AreNamed new stamp x.edges x.names) own (λ m. end_names (row_in old m).edges (row_in old m).names (t.names m));
        }
      where
        own : AreNamed new stamp v.edges v.names
        own = subst (λ es. AreNamed new stamp es v.names) (sym no_edges) (subst (AreNamed new stamp []) (sym no_names) tt)
