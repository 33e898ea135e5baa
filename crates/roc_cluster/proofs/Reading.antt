-- One turn of the reading of tables
use Rattle.std.proofs.Common.{◌≡◌, ℕ, ◌+◌, ◌<◌, true, false, List, [], ◌∷◌, ◌++◌, length, get_or, take, drop, Bor, String, BTreeMap, Global, inl, refl, sym, ap, subst, ◌∙◌, add-one, take-append-drop}
use Rattle.std.specs.List.{list_any}
use Rattle.std.proofs.Math.Seq.{drop-cons}
use Rattle.std.proofs.lemmas.List.{take_more}
use Rattle.toml.specs.Data.{Members}
use Rattle.toml.specs.View.{table_view}
use Rattle.toml.specs.declared.value.Value.{Value}
use Rattle.roc_cluster.specs.declared.entry.Entry.{Entry}
use Rattle.roc_cluster.specs.declared.fault.ClusterFault.{ClusterFault}
use Rattle.roc_cluster.specs.declared.fault.ClusterFault.TheVariants.{Twice}
use Rattle.roc_cluster.specs.Entries.{IsEntry, how_often}
use Rattle.roc_cluster.specs.Rules.{fresh, rules_of_fields, rules_of_entries, IsFirstBroken}
use Rattle.roc_cluster.specs.Inner.Judged.{Names, table_views, AreRead}
use Rattle.roc_cluster.proofs.Judging.{behind_kept, names_before}
use Rattle.roc_cluster.proofs.Counts.{is_at, count_none, count_some, times_of_entries, one_more}
use Rattle.roc_cluster.proofs.EntryRules.{fields_kept, rules_at, named_at, entries_push}

abbrev pub Table : Type 0
Table = Bor (BTreeMap (String Global) Value)

views_append : (xs ys : List Table) → table_views (xs ++ ys) ≡ table_views xs ++ table_views ys
views_append [] ys = refl
views_append (x ∷ xs) ys = ap (λ (ms : List Members). table_view x.now ∷ ms) (views_append xs ys)

-- the tables before a place, the one there, and those behind it
split_at : (tables : List Table) (i : ℕ) (table : Table) → i < length tables → table ≡ get_or tables i table → table_views tables ≡ table_views (take i tables) ++ table_view table.now ∷ table_views (drop (i + 1) tables)
split_at tables i table low is =
    let read : drop i tables ≡ get_or tables i table ∷ drop (i + 1) tables = rw (add-one, drop-cons tables i table) refl in
    let here : drop i tables ≡ table ∷ drop (i + 1) tables = read ∙ ap (λ (t : Table). t ∷ drop (i + 1) tables) (sym is) in
    let whole : tables ≡ take i tables ++ (table ∷ drop (i + 1) tables) = sym (take-append-drop i tables) ∙ ap (λ rest. take i tables ++ rest) here in
    ap table_views whole ∙ views_append (take i tables) (table ∷ drop (i + 1) tables)

next_views : (tables : List Table) (i : ℕ) (table : Table) → i < length tables → table ≡ get_or tables i table → table_views (take (i + 1) tables) ≡ table_views (take i tables) ++ table_view table.now ∷ []
next_views tables i table low is =
    ap table_views (take_more tables i table low ∙ ap (λ (t : Table). take i tables ++ t ∷ []) (sym is)) ∙ views_append (take i tables) (table ∷ [])

at_place : (shards : ℕ) (tables : List Table) (i : ℕ) (table : Table) → i < length tables → table ≡ get_or tables i table → (entries : List Entry) (fault : ClusterFault) → AreRead shards (table_views (take i tables)) entries → Names shards (rules_at (table_views (take i tables)) (table_view table.now)) fault → Names shards (rules_of_entries [] (table_views tables)) fault
at_place shards tables i table low is entries fault r named =
    subst (λ (ms : List Members). Names shards (rules_of_entries [] ms) fault) (sym (split_at tables i table low is)) (named_at shards (table_views (take i tables)) (table_views (drop (i + 1) tables)) (table_view table.now) entries fault r named)

-- a fault of the fields of the next table is the first
pub fault_in_fields : (shards : ℕ) (tables : List Table) (i : ℕ) (table : Table) → i < length tables → table ≡ get_or tables i table → (entries : List Entry) (fault : ClusterFault) → AreRead shards (table_views (take i tables)) entries → Names shards (rules_of_fields (table_view table.now)) fault → Names shards (rules_of_entries [] (table_views tables)) fault
fault_in_fields shards tables i table low is entries fault r named =
    at_place shards tables i table low is entries fault r (names_before shards (rules_of_fields (table_view table.now)) (fresh (table_views (take i tables)) (table_view table.now) ∷ []) fault named)

-- that its number is an earlier one's is the first fault
pub fault_of_number : (shards : ℕ) (tables : List Table) (i : ℕ) (table : Table) → i < length tables → table ≡ get_or tables i table → (entries : List Entry) (entry : Entry) → AreRead shards (table_views (take i tables)) entries → IsEntry shards (table_view table.now) entry → list_any (is_at entry.shard.0) entries ≡ true → IsFirstBroken shards (rules_of_entries [] (table_views tables)) (Twice entry.shard)
fault_of_number shards tables i table low is entries entry r e told =
    let count = times_of_entries shards (table_views (take i tables)) entries entry.shard.0 r.read in
    let some : 0 < how_often shards (table_views (take i tables)) entry.shard.0 = rw count (count_some (is_at entry.shard.0) entries told) in
    let earlier = table_views (take i tables) in
    let first : IsFirstBroken shards (rules_at earlier (table_view table.now)) (Twice entry.shard) =
    behind_kept shards (rules_of_fields (table_view table.now)) (fresh earlier (table_view table.now) ∷ []) (Twice entry.shard) (fields_kept shards (table_view table.now) entry e) (inl (entry.shard.0, e.number, some, refl)) in
    at_place shards tables i table low is entries (Twice entry.shard) r first

-- one table more was read
pub read_more : (shards : ℕ) (tables : List Table) (i : ℕ) (table : Table) → i < length tables → table ≡ get_or tables i table → (entries : List Entry) (entry : Entry) → AreRead shards (table_views (take i tables)) entries → IsEntry shards (table_view table.now) entry → list_any (is_at entry.shard.0) entries ≡ false → AreRead shards (table_views (take (i + 1) tables)) (entries ++ entry ∷ [])
read_more shards tables i table low is entries entry r e told =
    let earlier = table_views (take i tables) in
    let none : how_often shards earlier entry.shard.0 ≡ 0 = times_of_entries shards earlier entries entry.shard.0 r.read ∙ count_none (is_at entry.shard.0) entries told in
    let more : AreRead shards (earlier ++ table_view table.now ∷ []) (entries ++ entry ∷ []) = record {
      read = entries_push shards earlier (table_view table.now) entries entry r.read e;
      once = λ n. one_more shards earlier (table_view table.now) entry.shard.0 n e.number none (r.once n);
    } in
    subst (λ (ms : List Members). AreRead shards ms (entries ++ entry ∷ [])) (sym (next_views tables i table low is)) more
