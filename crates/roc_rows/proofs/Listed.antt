-- The entries of a table, sorted, are those of its store
use Rattle.std.proofs.Common.{◌≡◌, ◌≢◌, ◌↔◌, ◌+◌, ℤ, pos, Bool, true, false, cond, ◌&&◌, List, [], ◌∷◌, get_or, Option, Some, None, refl, sym, ap, subst, ◌∙◌, arith, T}
use Rattle.std.proofs.lemmas.Bool.{false≢true, and_parts}
use Rattle.std.proofs.lemmas.List.Sorted.{Contains-permutation, IsPermutation-map, IsPermutation-sym}
use Rattle.std.proofs.lemmas.Map.Keys.{apart_from_distinct, sorted_from_all_adjacent, IsDistinct-IsPermutation, IsDistinct-from_sorted}
use Rattle.std.proofs.lemmas.Map.Views.{Contains-from_lookup, lookup-from_Contains}
use Rattle.std.specs.FinMap as map
use Rattle.std.specs.FinMap.{FinMap, is_sorted, find}
use Rattle.std.specs.FinMap.Entries.{below_all}
use Rattle.std.proofs.lemmas.Map.Entries.{length-keys_of}
use Rattle.std.proofs.Math.ListN.{get_or-map}
use Rattle.std.specs.List.{IsDistinct, Contains, AllByRecursion}
use Rattle.std.specs.List.Sorted.{IsPermutation, IsSorted, IsStrictlySortedBy}
use Rattle.std.specs.Map.{lookup, keys_of}
use Rattle.std.specs.Ordering.{int_cmp, ordering_then, ordering_reverse, is_lt, is_eq}
use Rattle.std.specs.declared.cmp.Ordering.{Ordering}
use Rattle.std.specs.declared.cmp.Ordering.TheVariants.{Less, Equal, Greater}
use Rattle.roc_sequence.proofs.Rising.{less_from_test}
use Rattle.roc_rows.specs.declared.cell.Cell.{Cell}
use Rattle.roc_rows.specs.Cells.{is_cell, cell_cmp}
use Rattle.roc_rows.proofs.CellLaws.{is_cell-true, is_cell-swap, is_cell-equivalence, is_cell-by_cmp, cell_cmp-exact}
use Rattle.roc_rows.specs.Inner.Cells.{cell_cmp-total}
use Rattle.roc_rows.specs.Store.{Store, read, entries}
use Rattle.roc_rows.proofs.Stored.{numbers-read, read-numbers, numbers-store_of, entries-numbers}
use Rattle.roc_rows.specs.Inner.Kept.{store_of, HasNoZero}

-- a look-up finds the same after the entries change places
lookup_permuted : (es fs : List (Cell × ℤ)) → IsDistinct is_cell (keys_of es) → IsPermutation es fs → (c : Cell) → lookup (is_cell c) fs ≡ lookup (is_cell c) es
lookup_permuted es fs d p c = go (lookup (is_cell c) es) (lookup (is_cell c) fs) refl refl
  where
    there : (v : ℤ) → lookup (is_cell c) es ≡ Some v → lookup (is_cell c) fs ≡ Some v
    there v h = lookup-from_Contains is_cell-equivalence c v fs (IsDistinct-IsPermutation is_cell is_cell-swap _ _ (IsPermutation-map (λ e. e.0) es fs p) d) (Contains-permutation es fs (c, v) p (Contains-from_lookup is_cell-true c v es h))

    back : (v : ℤ) → lookup (is_cell c) fs ≡ Some v → lookup (is_cell c) es ≡ Some v
    back v h = lookup-from_Contains is_cell-equivalence c v es d (Contains-permutation fs es (c, v) (IsPermutation-sym es fs p) (Contains-from_lookup is_cell-true c v fs h))

    go : (o q : Option ℤ) → lookup (is_cell c) es ≡ o → lookup (is_cell c) fs ≡ q → q ≡ o
    go None None h k = refl
    go None (Some w) h k = sym (back w k) ∙ h
    go (Some v) q h k = sym k ∙ there v h

-- pairs compare by their cells first
abbrev pub pair_cmp : Cell × ℤ → Cell × ℤ → Ordering
pair_cmp a b = ordering_then (cell_cmp a.0 b.0) (int_cmp a.1 b.1)

-- where a pair does not come before another, and their cells differ, the other's cell comes before
cell_before : (a b : Cell × ℤ) → is_lt (pair_cmp b a) ≡ false → is_cell a.0 b.0 ≡ false → cell_cmp a.0 b.0 ≡ Less
cell_before a b h n = cell_cmp-total.antisymm a.0 b.0 ∙ go (cell_cmp b.0 a.0) refl
  where
    go : (o : Ordering) → cell_cmp b.0 a.0 ≡ o → ordering_reverse o ≡ Less
    go Less e = absurd (false≢true (sym h ∙ ap (λ o. is_lt (ordering_then o (int_cmp b.1 a.1))) e))
    go Equal e = absurd (false≢true (sym n ∙ is_cell-swap a.0 b.0 ∙ sym (is_cell-by_cmp b.0 a.0) ∙ ap is_eq e))
    go Greater e = refl

cells_rise : (fs : List (Cell × ℤ)) → IsSorted pair_cmp fs → IsDistinct is_cell (keys_of fs) → IsStrictlySortedBy cell_cmp (keys_of fs)
cells_rise fs up apart = sorted_from_all_adjacent cell_cmp-total (keys_of fs) no_cell (λ k l.
    let a = get_or fs k (no_cell, pos 0) in
    let b = get_or fs (k + 1) (no_cell, pos 0) in
    let at_a : get_or (keys_of fs) k no_cell ≡ a.0 = get_or-map (λ (e : Cell × ℤ). e.0) fs k (no_cell, pos 0) in
    let at_b : get_or (keys_of fs) (k + 1) no_cell ≡ b.0 = get_or-map (λ (e : Cell × ℤ). e.0) fs (k + 1) (no_cell, pos 0) in
    let in_order : is_lt (pair_cmp b a) ≡ false = up k (no_cell, pos 0) (omega arith) (omega (arith, length-keys_of fs)) in
    let apart_here : is_cell a.0 b.0 ≡ false = subst (λ x. is_cell x b.0 ≡ false) at_a (subst (λ y. is_cell (get_or (keys_of fs) k no_cell) y ≡ false) at_b (apart_from_distinct is_cell (keys_of fs) k (k + 1) no_cell apart (omega arith) l)) in
    subst (λ x. cell_cmp x (get_or (keys_of fs) (k + 1) no_cell) ≡ Less) (sym at_a) (subst (λ y. cell_cmp a.0 y ≡ Less) (sym at_b) (cell_before a b in_order apart_here)))
  where
    no_cell : Cell
    no_cell = record { table = 0; place = pos 0; id = pos 0 ∷ []; column = 0 }

below_all-from : (c : Cell) (fs : List (Cell × ℤ)) → AllByRecursion (λ y. cell_cmp c y ≡ Less) (keys_of fs) → below_all cell_cmp c fs ≡ true
below_all-from c [] h = refl
below_all-from c (f ∷ fs) h = λ i. is_lt (h.0 i) && below_all-from c fs h.1 i

is_sorted-from : (fs : List (Cell × ℤ)) → IsStrictlySortedBy cell_cmp (keys_of fs) → is_sorted cell_cmp fs ≡ true
unfolding IsStrictlySortedBy
is_sorted-from [] h = refl
is_sorted-from (f ∷ fs) h = λ i. below_all-from f.0 fs h.0 i && is_sorted-from fs h.1 i

find-lookup : (fs : List (Cell × ℤ)) (c : Cell) → find cell_cmp c fs ≡ lookup (is_cell c) fs
find-lookup [] c = refl
find-lookup (f ∷ fs) c = λ i. cond (is_cell-by_cmp c f.0 i) (Some f.1) (find-lookup fs c i)

-- the entries in the order of their cells are those of the store
pub sorted_entries : (es fs : List (Cell × ℤ)) → IsDistinct is_cell (keys_of es) → HasNoZero es → IsPermutation es fs → IsSorted pair_cmp fs → fs ≡ entries (store_of es)
sorted_entries es fs d none p up =
    let apart = IsDistinct-IsPermutation is_cell is_cell-swap _ _ (IsPermutation-map (λ e. e.0) es fs p) d in
    let rises = is_sorted-from fs (cells_rise fs up apart) in
    let sorted = subst T (sym rises) tt in
    let same : map.from_sorted fs ≡ (store_of es).numbers = map.same_map cell_cmp-total cell_cmp-exact _ _ (λ c.
    map.get-from_sorted cell_cmp fs c sorted ∙ find-lookup fs c ∙ lookup_permuted es fs d p c ∙ sym (numbers-store_of es none c)) in
    sym (map.entries-from_sorted cell_cmp fs sorted) ∙ ap map.entries same ∙ entries-numbers (store_of es)

-- ---- what the entries of any store are

true_from : (b : Bool) → T b → b ≡ true
true_from true h = refl
true_from false h = absurd h

from-below_all : (c : Cell) (fs : List (Cell × ℤ)) → below_all cell_cmp c fs ≡ true → AllByRecursion (λ y. cell_cmp c y ≡ Less) (keys_of fs)
from-below_all c [] h = tt
from-below_all c (f ∷ fs) h = let p = and_parts (is_lt (cell_cmp c f.0)) (below_all cell_cmp c fs) h in (less_from_test _ p.0, from-below_all c fs p.1)

from-is_sorted : (fs : List (Cell × ℤ)) → is_sorted cell_cmp fs ≡ true → IsStrictlySortedBy cell_cmp (keys_of fs)
unfolding IsStrictlySortedBy
from-is_sorted [] h = tt
from-is_sorted (f ∷ fs) h = let p = and_parts (below_all cell_cmp f.0 fs) (is_sorted cell_cmp fs) h in (from-below_all f.0 fs p.0, from-is_sorted fs p.1)

pub entries-rise : (s : Store) → IsStrictlySortedBy cell_cmp (keys_of (entries s))
entries-rise s = subst (λ es. IsStrictlySortedBy cell_cmp (keys_of es)) (entries-numbers s) (from-is_sorted (map.entries s.numbers) (true_from _ (map.entries_sorted s.numbers)))

entry_of_get : (m : FinMap cell_cmp ℤ) (c : Cell) → map.get m c ≡ lookup (is_cell c) (map.entries m)
entry_of_get m c = map.get-entries m c ∙ find-lookup (map.entries m) c

apart_from_sorted : (m : FinMap cell_cmp ℤ) → IsDistinct is_cell (keys_of (map.entries m))
apart_from_sorted m = subst (λ E. IsDistinct E (keys_of (map.entries m))) (λ i a b. is_cell-by_cmp a b i) (IsDistinct-from_sorted cell_cmp _ (from-is_sorted (map.entries m) (true_from _ (map.entries_sorted m))))

pub entries-exactly : (s : Store) (c : Cell) (v : ℤ) → Contains (entries s) (c, v) ↔ ((v ≢ pos 0) × (read s c ≡ v))
entries-exactly s c v = (there, back)
  where
    there : Contains (entries s) (c, v) → (v ≢ pos 0) × (read s c ≡ v)
    there h =
        let found = entry_of_get s.numbers c ∙ lookup-from_Contains is_cell-equivalence c v (map.entries s.numbers) (apart_from_sorted s.numbers) (subst (λ es. Contains es (c, v)) (sym (entries-numbers s)) h) in
        (λ e. s.no_zero c (found ∙ ap Some e), read-numbers s c v found)

    back : (v ≢ pos 0) × (read s c ≡ v) → Contains (entries s) (c, v)
    back h = subst (λ es. Contains es (c, v)) (entries-numbers s) (Contains-from_lookup is_cell-true c v (map.entries s.numbers) (sym (entry_of_get s.numbers c) ∙ numbers-read s c v h.0 h.1))
