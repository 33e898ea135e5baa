-- What pieces use: it follows from the names that were known before, where ids name no others
use Rattle.std.proofs.Common.{◌≡◌, ◌≢◌, ℕ, zero, suc, ◌+◌, ◌≤◌, ℤ, pos, true, false, ◌==◌, List, [], ◌∷◌, ◌++◌, map, slice_set, refl, sym, ap, ◌∙◌, arith}
use Rattle.std.proofs.lemmas.Bool.{false≢true, ne_eqb, or_from}
use Rattle.std.proofs.lemmas.List.{get_or-set_other}
use Rattle.std.specs.List.{AllByRecursion, flat_map, filter_map, range_with_len}
use Rattle.roc_rows.specs.declared.cell.Cell.{Cell}
use Rattle.roc_rows.specs.Store.{read}
use Rattle.roc_program.specs.Names.{binding, has_name}
use Rattle.roc_program.specs.Program.{Expression, Access, Statement, Get, Set, Out, Table}
use Rattle.roc_program.specs.Values.{Environment, value_of_name, value}
use Rattle.roc_program.specs.WellFormed.{IsOver, IsBody}
use Rattle.roc_program.proofs.ValueLaws.{value_same, uses_known}
use Rattle.roc_whole.specs.Run.{Progress, access_cell, after_statement}
use Rattle.roc_group.specs.Accesses.{access, uses_of, uses_of_body}

-- ---- numbers past a range

not_before : (from count n : ℕ) → from + count ≤ n → has_name (range_with_len from count) n ≡ false
not_before from zero n past = refl
not_before from (suc count) n past =
    or_from (from == n) (has_name (range_with_len (from + 1) count) n) (ne_eqb from n (λ e. omega arith)) (not_before (from + 1) count n (omega arith))

-- the numbers behind the first so many are none of these
pub none_first : (first from count : ℕ) → first ≤ from → AllByRecursion (λ n. has_name (range_with_len 0 first) n ≡ false) (range_with_len from count)
none_first first from zero past = tt
none_first first from (suc count) past = (not_before 0 first from (omega arith), none_first first (from + 1) count (omega arith))

-- ---- names that were known before

-- the two give the known names the same values
abbrev AgreeAmong : List ℕ → Environment → Environment → Type 0
AgreeAmong known xs ys = (n : ℕ) → has_name known n ≡ true → value_of_name xs n ≡ value_of_name ys n

keys_same : (known : List ℕ) (xs ys : Environment) (id : List Expression) → AgreeAmong known xs ys → AllByRecursion (IsOver known) id → map (λ e. value e xs) id ≡ map (λ e. value e ys) id
keys_same known xs ys [] agree over = refl
keys_same known xs ys (e ∷ es) agree over =
    let first : value e xs ≡ value e ys = value_same e xs ys (λ n used. agree n (uses_known known e n over.0 used)) in
    let rest = keys_same known xs ys es agree over.1 in
    λ i. first i ∷ rest i

-- an access whose id names none but those means one cell
cell_same : (known : List ℕ) (place : ℤ) (xs ys : Environment) (row : Access) → AgreeAmong known xs ys → AllByRecursion (IsOver known) row.id → access_cell place xs row ≡ access_cell place ys row
cell_same known place xs ys row agree over =
    ap (λ (v : List ℤ). let c : Cell = record { table = row.table; place = place; id = v; column = row.column } in c) (keys_same known xs ys row.id agree over)

-- a name that is bound later changes none of those
agree_later : (known : List ℕ) (xs ys : Environment) (number : ℕ) (v : ℤ) → has_name known number ≡ false → AgreeAmong known xs ys → AgreeAmong known (slice_set xs number v) ys
agree_later known xs ys number v new agree n has =
    let other : n ≢ number = λ e. false≢true (sym new ∙ ap (has_name known) (sym e) ∙ has) in
    get_or-set_other xs number n v (pos 0) other ∙ agree n has

-- statements of a piece use the same cells whatever they read
pub uses_of_body-known : (tables : List Table) (known own : List ℕ) (place : ℤ) (p : Progress) (names : Environment) (ss : List Statement) → IsBody tables known own ss → AllByRecursion (λ n. has_name known n ≡ false) (filter_map binding ss) → AgreeAmong known p.environment names
    → uses_of_body place p ss ≡ flat_map (uses_of place names) ss
uses_of_body-known tables known own place p names [] body new agree = refl
uses_of_body-known tables known own place p names (Get number from ∷ ss) body new agree =
    let rest = uses_of_body-known tables known (own ++ number ∷ []) place (after_statement place p (Get number from)) names ss body.1 new.1 (agree_later known p.environment names number (read p.store (access_cell place p.environment from)) new.0 agree) in
    λ i. access (cell_same known place p.environment names from agree body.0.id i) false ∷ rest i
uses_of_body-known tables known own place p names (Set to v ∷ ss) body new agree =
    let rest = uses_of_body-known tables known own place (after_statement place p (Set to v)) names ss body.2 new agree in
    λ i. access (cell_same known place p.environment names to agree body.0.id i) true ∷ rest i
uses_of_body-known tables known own place p names (Out v ∷ ss) body new agree =
    uses_of_body-known tables known own place (after_statement place p (Out v)) names ss body.1 new agree
