-- Entries that are followed from some transactions to one another, found one after another
use Rattle.std.proofs.Common.{◌≡◌, ◌+◌, ◌<◌, ◌≤◌, ◌&&◌, ℕ, Bool, true, false, cond, not, min, List, [], ◌∷◌, ◌++◌, length, get_or, drop, map, filter}
use Rattle.std.proofs.Common.{Option, Some, None, unwrap_or, IsTrue, refl, sym, ap, ◌∙◌, append_assoc, append-nil, arith}
use Rattle.std.proofs.lemmas.Bool.Decides.{nat_tests}
use Rattle.std.proofs.lemmas.List.{drop_more, drop_all}
use Rattle.std.specs.Prelude.{nat_lt}
use Rattle.std.specs.List.{AllByRecursion}
use Rattle.std.specs.Option.{option_map}
use Rattle.roc_sequence.specs.Places.{is_listed}
use Rattle.roc_sequence.specs.Rising.{IsRising}
use Rattle.roc_sequence.proofs.Rising.{rising_filter}
use Rattle.roc_base.specs.declared.id.TxnId.{TxnId}
use Rattle.roc_base.specs.TxnId.{is_txn}
use Rattle.roc_base.specs.Edge.{Dependency}
use Rattle.roc_base.specs.Edges.{comes_before, united}
use Rattle.roc_component.proofs.ListsWithin.{united_within}
use Rattle.roc_depgraph.specs.declared.known.KnownList.{KnownList}
use Rattle.roc_depgraph.specs.Deps.{list_of, entries_of}
use Rattle.roc_step.specs.Links.{without_links}
use Rattle.roc_server_rows.specs.declared.rows.Link.{Link}
use Rattle.roc_server_rows.specs.declared.rows.Row.{Row}
use Rattle.roc_server_table.specs.Inner.Among.{among, followed_from, is_skipped, links_past, skipped_at}
use Rattle.roc_server_rows.specs.LinksBut.{links_but}
use Rattle.roc_server_rows.specs.Rows.{followed, is_alive, row_links}

-- ---- one entry

pick_on : (e : Bool) (x y : List Dependency) → cond e x y ≡ cond (e && true) x y
pick_on true x y = refl
pick_on false x y = refl

pick_off : (e c : Bool) (x y : List Dependency) → y ≡ cond (e && (c && false)) x y
pick_off true true x y = refl
pick_off true false x y = refl
pick_off false c x y = refl

module _ (ids : List TxnId) (skipped : Option TxnId) where
  abbrev is_inside : Dependency → Bool
  is_inside d = is_listed is_txn ids d.from

  abbrev stays : Dependency → Bool
  stays d = not (is_skipped skipped d.from)

  among_one : (d : Dependency) (es : List Dependency) (b : Bool)
      → among ids skipped (cond b (d ∷ es) es) ≡ cond (is_inside d && (stays d && b)) (d ∷ among ids skipped es) (among ids skipped es)
  among_one d es false = pick_off (is_inside d) (stays d) (d ∷ among ids skipped es) (among ids skipped es)
  among_one d es true = go (stays d)
    where
      go : (c : Bool) → filter is_inside (cond c (d ∷ filter stays es) (filter stays es)) ≡ cond (is_inside d && (c && true)) (d ∷ among ids skipped es) (among ids skipped es)
      go true = pick_on (is_inside d) (d ∷ among ids skipped es) (among ids skipped es)
      go false = pick_off (is_inside d) false (d ∷ among ids skipped es) (among ids skipped es)

  module _ (rows : List Row) (es : List Dependency) (ls : List Link) where
    -- what is left to be found from a place on
    abbrev pub left : ℕ → List Dependency
    left i = among ids skipped (followed rows (drop i es) (drop i ls))

    abbrev pub whole : List Dependency
    whole = among ids skipped (followed rows es ls)

    module _ (i : ℕ) (d : Dependency) (l : Link) (found : List Dependency) (test : Bool)
        (in_edges : i < length es) (in_links : i < length ls) (edge : d ≡ get_or es i d) (link : l ≡ get_or ls i l)
        (is : test ≡ (is_listed is_txn ids d.from && (not (is_skipped skipped d.from) && is_alive rows l))) (so_far : found ++ left i ≡ whole) where
      left_is : left i ≡ cond test (d ∷ left (i + 1)) (left (i + 1))
      left_is =
          let edges_are : drop i es ≡ d ∷ drop (i + 1) es = drop_more es i d in_edges ∙ ap (λ x. x ∷ drop (i + 1) es) (sym edge) in
          let links_are : drop i ls ≡ l ∷ drop (i + 1) ls = drop_more ls i l in_links ∙ ap (λ x. x ∷ drop (i + 1) ls) (sym link) in
          ap (λ xs. among ids skipped (followed rows xs (drop i ls))) edges_are
          ∙ (ap (λ xs. among ids skipped (followed rows (d ∷ drop (i + 1) es) xs)) links_are
          ∙ (among_one d (followed rows (drop (i + 1) es) (drop (i + 1) ls)) (is_alive rows l)
          ∙ ap (λ b. cond b (d ∷ left (i + 1)) (left (i + 1))) (sym is)))

      pub found_more : (more : List Dependency) → test ≡ true → more ≡ found ++ d ∷ [] → more ++ left (i + 1) ≡ whole
      found_more more e m =
          ap (λ xs. xs ++ left (i + 1)) m
          ∙ (append_assoc found (d ∷ []) (left (i + 1))
          ∙ (ap (λ xs. found ++ xs) (sym (left_is ∙ ap (λ b. cond b (d ∷ left (i + 1)) (left (i + 1))) e))
          ∙ so_far))

      pub found_same : (more : List Dependency) → test ≡ false → more ≡ found → more ++ left (i + 1) ≡ whole
      found_same more e m =
          ap (λ xs. xs ++ left (i + 1)) m
          ∙ (ap (λ xs. found ++ xs) (sym (left_is ∙ ap (λ b. cond b (d ∷ left (i + 1)) (left (i + 1))) e))
          ∙ so_far)

    no_links : (xs : List Dependency) → followed rows xs [] ≡ []
    no_links [] = refl
    no_links (x ∷ xs) = refl

    -- and nothing at the end
    none_left : (i : ℕ) → i ≡ min (length es) (length ls) → left i ≡ []
    none_left i e = go (nat_lt i (length es)) refl
      where
        go : (b : Bool) → nat_lt i (length es) ≡ b → left i ≡ []
        go true h =
            let k : i < length es = grind (arith, nat_tests) in
            let past : length ls ≤ i = omega arith in
            ap (λ xs. among ids skipped (followed rows (drop i es) xs)) (drop_all i ls past) ∙ ap (among ids skipped) (no_links (drop i es))
        go false h =
            let past : length es ≤ i = grind (arith, nat_tests) in
            ap (λ xs. among ids skipped (followed rows xs (drop i ls))) (drop_all i es past)

    pub found_all : (i : ℕ) (found : List Dependency) → i ≡ min (length es) (length ls) → found ++ left i ≡ whole → found ≡ whole
    found_all i found e so_far = sym (append-nil found) ∙ (ap (λ xs. found ++ xs) (sym (none_left i e)) ∙ so_far)

-- ---- as a list

all_followed : (P : Dependency → Type 0) (rows : List Row) (es : List Dependency) (ls : List Link) → AllByRecursion P es → AllByRecursion P (followed rows es ls)
all_followed P rows [] ls a = tt
all_followed P rows (d ∷ es) [] a = tt
all_followed P rows (d ∷ es) (l ∷ ls) a = go (is_alive rows l) (all_followed P rows es ls a.1)
  where
    go : (b : Bool) → AllByRecursion P (followed rows es ls) → AllByRecursion P (cond b (d ∷ followed rows es ls) (followed rows es ls))
    go true h = (a.0, h)
    go false h = h

rising_followed : (rows : List Row) (es : List Dependency) (ls : List Link) → IsRising comes_before es → IsRising comes_before (followed rows es ls)
rising_followed rows [] ls r = tt
rising_followed rows (d ∷ es) [] r = tt
rising_followed rows (d ∷ es) (l ∷ ls) r = go (is_alive rows l) (rising_followed rows es ls r.1)
  where
    go : (b : Bool) → IsRising comes_before (followed rows es ls) → IsRising comes_before (cond b (d ∷ followed rows es ls) (followed rows es ls))
    go true h = (all_followed (λ e. IsTrue (comes_before d e)) rows es ls r.0, h)
    go false h = h

pub united_among : (ids : List TxnId) (skipped : Option TxnId) (rows : List Row) (es : List Dependency) (ls : List Link) (found edges : List Dependency) → IsRising comes_before es
    → found ≡ among ids skipped (followed rows es ls) → edges ≡ united ([] ++ found) → edges ≡ among ids skipped (followed rows es ls)
united_among ids skipped rows es ls found edges rising is united_is =
    united_within (λ d. is_listed is_txn ids d.from) (filter (λ d. not (is_skipped skipped d.from)) (followed rows es ls)) found edges
    (rising_filter comes_before (λ d. not (is_skipped skipped d.from)) (followed rows es ls) (rising_followed rows es ls rising)) is united_is

-- ---- lists without the entries that are skipped

abbrev some_of : (TxnId → Bool) → List Dependency → List Dependency
some_of p es = filter (λ d. not (p d.from)) es

list_without : (p : TxnId → Bool) (id : TxnId) (ks : List KnownList) → list_of id (map (without_links p) ks) ≡ option_map (some_of p) (list_of id ks)
list_without p id [] = refl
list_without p id (k ∷ ks) = go (is_txn k.of id) (list_without p id ks)
  where
    go : (b : Bool) → list_of id (map (without_links p) ks) ≡ option_map (some_of p) (list_of id ks)
        → cond b (Some (some_of p k.edges)) (list_of id (map (without_links p) ks)) ≡ option_map (some_of p) (cond b (Some k.edges) (list_of id ks))
    go true ih = refl
    go false ih = ih

filter_none : (es : List Dependency) → filter (λ (d : Dependency). true) es ≡ es
filter_none [] = refl
filter_none (d ∷ es) = ap (λ xs. d ∷ xs) (filter_none es)

pub entries_past : (skipped : Option TxnId) (ks : List KnownList) (id : TxnId) → entries_of (links_past skipped ks) id ≡ filter (λ d. not (is_skipped skipped d.from)) (entries_of ks id)
entries_past None ks id = sym (filter_none (entries_of ks id))
entries_past (Some other) ks id = ap (λ (o : Option (List Dependency)). unwrap_or o []) (list_without (λ t. is_txn t other) id ks) ∙ go (list_of id ks)
  where
    go : (o : Option (List Dependency)) → unwrap_or (option_map (some_of (λ t. is_txn t other)) o) [] ≡ some_of (λ t. is_txn t other) (unwrap_or o [])
    go None = refl
    go (Some es) = refl

pub links_but_is : (except : Option ℕ) (rows : List Row) → links_past (skipped_at except rows) (row_links rows) ≡ links_but except rows
links_but_is None rows = refl
links_but_is (Some m) rows = refl

-- what was found of the list of a transaction is what the lists of the ids have of it
pub edges_kept : (ids : List TxnId) (skipped : Option TxnId) (rows : List Row) (id : TxnId) (from : Option Row) (edges : List Dependency)
    → edges ≡ among ids skipped (followed_from rows from) → entries_of (row_links rows) id ≡ followed_from rows from
    → edges ≡ filter (λ d. is_listed is_txn ids d.from) (entries_of (links_past skipped (row_links rows)) id)
edges_kept ids skipped rows id from edges e f =
    e ∙ (ap (among ids skipped) (sym f) ∙ ap (filter (λ (d : Dependency). is_listed is_txn ids d.from)) (sym (entries_past skipped (row_links rows) id)))
