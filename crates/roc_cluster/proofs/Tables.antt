-- The items of an array that are tables, one after the other
use Rattle.std.proofs.Common.{◌≡◌, ℕ, suc, ◌+◌, ◌<◌, ◌≤◌, arith, length, get_or, drop, subst, List, [], ◌∷◌, ◌++◌, append_assoc, Option, Some, None, option_map, option_and_then, refl, sym, ap, ◌∙◌}
use Rattle.std.proofs.lemmas.List.{append-nil, map-append}
use Rattle.std.proofs.Math.Seq.{drop-cons}
use Rattle.std.proofs.Math.ListN.{drop_of_length-le}
use Rattle.std.specs.Prelude.{String}
use Rattle.std.specs.Borrow.{Bor}
use Rattle.std.specs.BTreeMap.{BTreeMap}
use Rattle.std.specs.declared.alloc.Global.{Global}
use Rattle.toml.specs.View.{view, items_view, table_view}
use Rattle.toml.specs.declared.value.Value.{Value}
use Rattle.roc_cluster.specs.Inner.Judged.{table_views}
use Rattle.toml.specs.Data.{Data, Items, no_items, item, Members, as_table}
use Rattle.roc_cluster.specs.Entries.{tables_of}

-- tables that were found, and those that are still found
abbrev pub with_front : List Members → Option (List Members) → Option (List Members)
with_front front found = option_map (λ tables. front ++ tables) found

pub front_none : (found : Option (List Members)) → with_front [] found ≡ found
front_none (Some tables) = refl
front_none None = refl

regroup : (front : List Members) (table : Members) (found : Option (List Members)) → with_front front (option_and_then (λ tables. Some (table ∷ tables)) found) ≡ with_front (front ++ table ∷ []) found
regroup front table (Some tables) = ap (λ (all : List Members). Some all) (simp append_assoc)
regroup front table None = refl

pub goes_on : (front : List Members) (value : Data) (table : Members) (rest : Items) (total : Option (List Members)) → as_table value ≡ Some table → with_front front (tables_of (item value rest)) ≡ total → with_front (front ++ table ∷ []) (tables_of rest) ≡ total
goes_on front value table rest total is so_far =
    let one : with_front front (tables_of (item value rest)) ≡ with_front (front ++ table ∷ []) (tables_of rest) = rw is (regroup front table (tables_of rest)) in
    sym one ∙ so_far

pub stops : (front : List Members) (value : Data) (rest : Items) (total : Option (List Members)) → as_table value ≡ None → with_front front (tables_of (item value rest)) ≡ total → total ≡ None
stops front value rest total is so_far =
    let one : with_front front (tables_of (item value rest)) ≡ None = rw is refl in
    sym so_far ∙ one

pub ends : (front : List Members) (total : Option (List Members)) → with_front front (tables_of no_items) ≡ total → total ≡ Some front
ends front total so_far = sym so_far ∙ ap (λ (all : List Members). Some all) (append-nil front)

-- ---- the same of a loop over the items

abbrev Lent : Type 0
Lent = Bor (BTreeMap (String Global) Value)

left : (values : List Value) (i : ℕ) (value : Value) (front : List Members) (total : Option (List Members)) → i < length values → value ≡ get_or values i value
    → with_front front (tables_of (items_view (drop i values))) ≡ total → with_front front (tables_of (item (view value) (items_view (drop (suc i) values)))) ≡ total
left values i value front total lt is so_far =
    let here : drop i values ≡ value ∷ drop (suc i) values = drop-cons values i value lt ∙ ap (λ (v : Value). v ∷ drop (suc i) values) (sym is) in
    ap (λ (l : List Value). with_front front (tables_of (items_view l))) (sym here) ∙ so_far

-- one more item is a table
pub one_more : (values : List Value) (i : ℕ) (value : Value) (before after : List Lent) (table : Lent) (total : Option (List Members)) → i < length values → value ≡ get_or values i value
    → Some (table_view table.now) ≡ as_table (view value) → after ≡ before ++ table ∷ []
    → with_front (table_views before) (tables_of (items_view (drop i values))) ≡ total → with_front (table_views after) (tables_of (items_view (drop (i + 1) values))) ≡ total
one_more values i value before after table total lt is found added so_far =
    let views : table_views after ≡ table_views before ++ table_view table.now ∷ [] = ap table_views added ∙ map-append (λ (t : Lent). table_view t.now) before (table ∷ []) in
    let rest = items_view (drop (suc i) values) in
    let further = goes_on (table_views before) (view value) (table_view table.now) rest total (sym found) (left values i value (table_views before) total lt is so_far) in
    let next : suc i ≡ i + 1 = omega arith in
    subst (λ n. with_front (table_views after) (tables_of (items_view (drop n values))) ≡ total) next (ap (λ (front : List Members). with_front front (tables_of rest)) views ∙ further)

-- one item is no table
pub no_table : (values : List Value) (i : ℕ) (value : Value) (before : List Lent) (total : Option (List Members)) → i < length values → value ≡ get_or values i value → None ≡ as_table (view value)
    → with_front (table_views before) (tables_of (items_view (drop i values))) ≡ total → total ≡ None
no_table values i value before total lt is found so_far =
    stops (table_views before) (view value) (items_view (drop (suc i) values)) total (sym found) (left values i value (table_views before) total lt is so_far)

-- no item is left
pub none_left : (values : List Value) (i : ℕ) (before : List Lent) (total : Option (List Members)) → length values ≤ i → with_front (table_views before) (tables_of (items_view (drop i values))) ≡ total → total ≡ Some (table_views before)
none_left values i before total le so_far =
    ends (table_views before) total (ap (λ (l : List Value). with_front (table_views before) (tables_of (items_view l))) (sym (drop_of_length-le values le)) ∙ so_far)
