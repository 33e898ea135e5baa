-- Columns of more and more statements, and who meets them
use Rattle.std.proofs.Common.{◌≡◌, ℕ, ◌≤◌, ◌+◌, Bool, false, ◌||◌, List, [], ◌∷◌, ◌++◌, length, map, refl, sym, ap, ◌∙◌, arith}
use Rattle.std.proofs.lemmas.Bool.Decides.{nat_tests}
use Rattle.std.proofs.lemmas.List.Folds.{list_any-append}
use Rattle.std.proofs.lemmas.List.FromFn.{map-range_with_len_more}
use Rattle.std.specs.List.{AllByRecursion, list_any, flat_map, range_with_len}
use Rattle.roc_program.specs.Program.{Access, Expression, Statement, Get, Set, Out, Table, Workload}
use Rattle.roc_program.specs.Conflict.{collide, are_in_conflict, exposed}
use Rattle.roc_program.specs.WellFormed.{IsProgram}
use Rattle.roc_program.specs.declared.piece_id.PieceId.{PieceId}
use Rattle.roc_program.proofs.Conflicts.{in_conflict_exposed}
use Rattle.roc_program.proofs.Ranges.{flat_map-range_more}
use Rattle.roc_conflict.specs.declared.columns.Columns.{Columns}
use Rattle.roc_conflict.specs.Classes.{is_immediate}
use Rattle.roc_conflict.specs.Columns.{has_column, meets, piece_meets}
use Rattle.roc_conflict.specs.Inner.Gathered.{touches, writes, Gathers, AddsStatements}
use Rattle.roc_conflict.proofs.Declared.{InTables, in_exposed}

-- ---- more statements

or_none : (x y : Bool) → (x || y) ≡ (x || (y || false))
or_none x y = grind (arith, nat_tests)

or_of_three : (x y z : Bool) → ((x || y) || z) ≡ (x || (y || z))
or_of_three x y z = grind (arith, nat_tests)

none_more : (x : Bool) → x ≡ (x || false)
none_more x = grind (arith, nat_tests)

pub gathers_none : (test : ℕ → ℕ → Statement → Bool) (columns : List (List Bool)) → Gathers test columns columns []
gathers_none test columns table column t c = none_more (has_column columns table column)

gathers_more : (test : ℕ → ℕ → Statement → Bool) (a b c : List (List Bool)) (xs ys : List Statement) → Gathers test a b xs → Gathers test b c ys → Gathers test a c (xs ++ ys)
gathers_more test a b c xs ys first next table column t k =
    next table column t k ∙ ap (λ x. x || list_any (test table column) ys) (first table column t k)
    ∙ or_of_three (has_column a table column) (list_any (test table column) xs) (list_any (test table column) ys)
    ∙ ap (λ x. has_column a table column || x) (sym (list_any-append (test table column) xs ys))

pub adds_none : (columns : Columns) → AddsStatements columns columns []
adds_none columns = record { touched = gathers_none touches columns.touched; written = gathers_none writes columns.written }

pub adds_more : (a b c : Columns) (xs ys : List Statement) → AddsStatements a b xs → AddsStatements b c ys → AddsStatements a c (xs ++ ys)
adds_more a b c xs ys first next = record {
  touched = gathers_more touches a.touched b.touched c.touched xs ys first.touched next.touched;
  written = gathers_more writes a.written b.written c.written xs ys first.written next.written;
}

-- ---- who meets them

same_any : {A : Type 0} (p q : A → Bool) → ((x : A) → p x ≡ q x) → (xs : List A) → list_any p xs ≡ list_any q xs
same_any p q same [] = refl
same_any p q same (x ∷ xs) = ap (λ b. b || list_any p xs) (same x) ∙ ap (λ b. q x || b) (same_any p q same xs)

by_writes : (number : ℕ) (a : Access) (s : Statement) → writes a.table a.column s ≡ collide (Get number a) s
by_writes number a (Get m b) = refl
by_writes number a (Set b value) = refl
by_writes number a (Out value) = refl

by_touches : (a : Access) (value : Expression) (s : Statement) → touches a.table a.column s ≡ collide (Set a value) s
by_touches a value (Get m b) = refl
by_touches a value (Set b v) = refl
by_touches a value (Out v) = refl

nothing_collides : (value : Expression) (ss : List Statement) → false ≡ list_any (collide (Out value)) ss
nothing_collides value [] = refl
nothing_collides value (s ∷ ss) = nothing_collides value ss

module _ (tables : List Table) (few : length tables ≤ 64) (old new : Columns) (ss : List Statement) (adds : AddsStatements old new ss) where
  meets_more : (s : Statement) → InTables tables s → meets new s ≡ (meets old s || list_any (collide s) ss)
  meets_more (Get number a) h =
      adds.written a.table a.column (omega (arith, h.0, few)) h.1
      ∙ ap (λ b. has_column old.written a.table a.column || b) (same_any (writes a.table a.column) (collide (Get number a)) (by_writes number a) ss)
  meets_more (Set a value) h =
      adds.touched a.table a.column (omega (arith, h.0, few)) h.1
      ∙ ap (λ b. has_column old.touched a.table a.column || b) (same_any (touches a.table a.column) (collide (Set a value)) (by_touches a value) ss)
  meets_more (Out value) h = nothing_collides value ss

  or_across : (x y a b : Bool) → ((x || y) || (a || b)) ≡ ((x || a) || (y || b))
  or_across x y a b = grind (arith, nat_tests)

  any_meets_more : (us : List Statement) → AllByRecursion (InTables tables) us → list_any (meets new) us ≡ (list_any (meets old) us || list_any (λ s. list_any (collide s) ss) us)
  any_meets_more [] h = refl
  any_meets_more (u ∷ us) h =
      ap (λ b. b || list_any (meets new) us) (meets_more u h.0) ∙ ap (λ b. (meets old u || list_any (collide u) ss) || b) (any_meets_more us h.1)
      ∙ or_across (meets old u) (list_any (collide u) ss) (list_any (meets old) us) (list_any (λ s. list_any (collide s) ss) us)

-- who meets the columns that were added to is in conflict with the piece whose columns were added, or met them before
pub piece_added : (program : Workload) (id : PieceId) (old new : Columns) → IsProgram program → AddsStatements old new (exposed program id)
    → (other : PieceId) → piece_meets program new other ≡ (piece_meets program old other || are_in_conflict program other id)
piece_added program id old new formed adds other =
    any_meets_more program.tables formed.few_tables old new (exposed program id) adds (exposed program other) (in_exposed program formed other)
    ∙ ap (λ b. piece_meets program old other || b) (sym (in_conflict_exposed program other id))

-- no columns are met by nobody
pub none_meet : (columns : Columns) (program : Workload) (id : PieceId) → ((p : PieceId) → is_immediate columns.touched p ≡ false) → ((p : PieceId) → is_immediate columns.written p ≡ false)
    → piece_meets program columns id ≡ false
none_meet columns program id touched written = go (exposed program id)
  where
    one : (s : Statement) → meets columns s ≡ false
    one (Get number a) = written (record { proc = a.table; piece = a.column })
    one (Set a value) = touched (record { proc = a.table; piece = a.column })
    one (Out value) = refl

    go : (ss : List Statement) → list_any (meets columns) ss ≡ false
    go [] = refl
    go (s ∷ ss) = ap (λ b. b || list_any (meets columns) ss) (one s) ∙ go ss

-- ---- one piece and one procedure more

pub one_more_piece : {A : Type 0} (p : A → Bool) (f : ℕ → A) (n : ℕ) (x a b : Bool) → a ≡ (x || list_any p (map f (range_with_len 0 n))) → b ≡ (a || p (f n)) → b ≡ (x || list_any p (map f (range_with_len 0 (n + 1))))
one_more_piece p f n x a b h e =
    e ∙ ap (λ c. c || p (f n)) h ∙ or_of_three x (list_any p (map f (range_with_len 0 n))) (p (f n))
    ∙ ap (λ c. x || c) (or_none (list_any p (map f (range_with_len 0 n))) (p (f n)) ∙ sym (list_any-append p (map f (range_with_len 0 n)) (f n ∷ [])) ∙ ap (list_any p) (sym (map-range_with_len_more f 0 n n (omega arith))))

pub one_more_procedure : {A : Type 0} (p : A → Bool) (f : ℕ → List A) (n : ℕ) (a b : Bool) → a ≡ list_any p (flat_map f (range_with_len 0 n)) → b ≡ (a || list_any p (f n)) → b ≡ list_any p (flat_map f (range_with_len 0 (n + 1)))
one_more_procedure p f n a b h e =
    e ∙ ap (λ c. c || list_any p (f n)) h ∙ sym (list_any-append p (flat_map f (range_with_len 0 n)) (f n)) ∙ ap (list_any p) (sym (flat_map-range_more f n))
