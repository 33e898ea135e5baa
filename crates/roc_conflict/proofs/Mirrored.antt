-- Conflict is symmetric
use Rattle.std.proofs.Common.{◌≡◌, Bool, false, not, ◌&&◌, ◌||◌, List, [], ◌∷◌, refl, ◌∙◌, ap, arith}
use Rattle.std.proofs.lemmas.Bool.Decides.{nat_tests}
use Rattle.std.specs.List.{list_any}
use Rattle.roc_program.specs.Program.{Access, Statement, Get, Set, Out, Workload}
use Rattle.roc_program.specs.Conflict.{is_same_column, collide, conflict, are_in_conflict}
use Rattle.roc_program.specs.LookUps.{is_view_in}
use Rattle.roc_program.specs.Pieces.{piece_of}
use Rattle.roc_program.specs.declared.piece_id.PieceId.{PieceId}

column_mirrored : (a b : Access) → is_same_column a b ≡ is_same_column b a
column_mirrored a b = grind (arith, nat_tests)

collide_mirrored : (s t : Statement) → collide s t ≡ collide t s
collide_mirrored (Get n a) (Get m b) = refl
collide_mirrored (Get n a) (Set b v) = column_mirrored a b
collide_mirrored (Get n a) (Out v) = refl
collide_mirrored (Set a u) (Get m b) = column_mirrored a b
collide_mirrored (Set a u) (Set b v) = column_mirrored a b
collide_mirrored (Set a u) (Out v) = refl
collide_mirrored (Out u) (Get m b) = refl
collide_mirrored (Out u) (Set b v) = refl
collide_mirrored (Out u) (Out v) = refl

or_swap : (a b c : Bool) → a || (b || c) ≡ b || (a || c)
or_swap a b c = grind (arith, nat_tests)

none_in : (xs : List Statement) → list_any (λ x. false) xs ≡ false
none_in [] = refl
none_in (x ∷ xs) = none_in xs

-- one more on the right
one_more : (y : Statement) (ys xs : List Statement) → list_any (λ x. list_any (collide x) (y ∷ ys)) xs ≡ (list_any (λ x. collide x y) xs || list_any (λ x. list_any (collide x) ys) xs)
one_more y ys [] = refl
one_more y ys (x ∷ xs) = ap (λ b. (collide x y || list_any (collide x) ys) || b) (one_more y ys xs) ∙ regroup (collide x y) (list_any (collide x) ys) (list_any (λ x. collide x y) xs) (list_any (λ x. list_any (collide x) ys) xs)
  where
    regroup : (a b c d : Bool) → (a || b) || (c || d) ≡ (a || c) || (b || d)
    regroup a b c d = grind (arith, nat_tests)

any_mirrored : (y : Statement) (xs : List Statement) → list_any (λ x. collide x y) xs ≡ list_any (collide y) xs
any_mirrored y [] = refl
any_mirrored y (x ∷ xs) = ap (λ b. b || list_any (λ x. collide x y) xs) (collide_mirrored x y) ∙ ap (λ b. collide y x || b) (any_mirrored y xs)

bodies_mirrored : (xs ys : List Statement) → list_any (λ x. list_any (collide x) ys) xs ≡ list_any (λ y. list_any (collide y) xs) ys
bodies_mirrored xs [] = none_in xs
bodies_mirrored xs (y ∷ ys) =
    one_more y ys xs ∙ ap (λ b. b || list_any (λ x. list_any (collide x) ys) xs) (any_mirrored y xs) ∙ ap (λ b. list_any (collide y) xs || b) (bodies_mirrored xs ys)

pub conflict_mirrored : (program : Workload) (one other : PieceId) → are_in_conflict program one other ≡ are_in_conflict program other one
conflict_mirrored program one other =
    swapped (not (is_view_in program one.proc)) (not (is_view_in program other.proc)) (conflict (piece_of program one) (piece_of program other)) (conflict (piece_of program other) (piece_of program one))
    (bodies_mirrored (piece_of program one).body (piece_of program other).body)
  where
    swapped : (a b c d : Bool) → c ≡ d → a && (b && c) ≡ b && (a && d)
    swapped a b c d e = grind (arith, nat_tests)
