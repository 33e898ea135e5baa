-- How many values the statements of a piece add to the reply
use Rattle.std.proofs.Common.{◌≡◌, ◌+◌, List, length, map, cond, count_by, Option, Some, None, is_some, refl, sym, arith}
use Rattle.std.proofs.lemmas.List.Recursion.{is_count_by}
use Rattle.std.specs.List.{filter_map, cons_option}
use Rattle.roc_program.specs.Names.{output}
use Rattle.roc_program.specs.Parts as view
use Rattle.roc_program.specs.declared.parts.Statement.{Statement}
use Rattle.roc_plan_make.specs.Inner.Counts.{is_out}

count_is : {X Y Z : Type 0} (h : Y → Option Z) (f : X → Y) (xs : List X) → length (filter_map h (map f xs)) ≡ count_by (λ x. is_some (h (f x))) xs
count_is h f xs = is_count_by (λ xs. length (filter_map h (map f xs))) (λ x. is_some (h (f x))) refl (λ x xs. step (h (f x)) (filter_map h (map f xs))) xs
  where
    step : {Z : Type 0} (o : Option Z) (rest : List Z) → length (cons_option o rest) ≡ cond (is_some o) (1 + length rest) (length rest)
    step None rest = refl
    step (Some z) rest = omega arith

pub outs_are : (body : List Statement) → count_by is_out body ≡ length (filter_map output (map view.statement body))
unfolding is_out
outs_are body = sym (count_is output view.statement body)
