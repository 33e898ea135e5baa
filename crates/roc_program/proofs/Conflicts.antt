-- What it takes for two pieces to be in conflict: neither is of a view, and statements of theirs collide
use Rattle.std.proofs.Common.{◌≡◌, Bool, true, false, not, ◌&&◌, cond, List, [], ◌∷◌, refl, sym}
use Rattle.std.proofs.lemmas.Bool.{and_parts, and_from, false≢true}
use Rattle.std.specs.List.{list_any}
use Rattle.roc_program.specs.Program.{Workload, Statement}
use Rattle.roc_program.specs.LookUps.{is_view_in}
use Rattle.roc_program.specs.Pieces.{piece_of}
use Rattle.roc_program.specs.Conflict.{collide, conflict, are_in_conflict, exposed}
use Rattle.roc_program.specs.declared.piece_id.PieceId.{PieceId}

not_so : (b : Bool) → not b ≡ true → b ≡ false
not_so false e = refl
not_so true e = absurd (false≢true e)

so : (b : Bool) → b ≡ false → not b ≡ true
so false e = refl
so true e = absurd (false≢true (sym e))

none_with_none : (ss : List Statement) → list_any (λ s. list_any (collide s) []) ss ≡ false
none_with_none [] = refl
none_with_none (s ∷ ss) = none_with_none ss

-- exactly if exposed statements collide
pub in_conflict_exposed : (program : Workload) (one other : PieceId) → are_in_conflict program one other ≡ list_any (λ s. list_any (collide s) (exposed program other)) (exposed program one)
in_conflict_exposed program one other = go (is_view_in program one.proc) (is_view_in program other.proc)
  where
    go : (a b : Bool) → not a && (not b && conflict (piece_of program one) (piece_of program other))
        ≡ list_any (λ s. list_any (collide s) (cond b [] (piece_of program other).body)) (cond a [] (piece_of program one).body)
    go true b = refl
    go false true = sym (none_with_none (piece_of program one).body)
    go false false = refl

pub record AreInConflict (program : Workload) (one other : PieceId) : Type 0 where
  pub first : is_view_in program one.proc ≡ false
  pub second : is_view_in program other.proc ≡ false
  pub meet : conflict (piece_of program one) (piece_of program other) ≡ true

pub in_conflict_parts : (program : Workload) (one other : PieceId) → are_in_conflict program one other ≡ true → AreInConflict program one other
in_conflict_parts program one other h =
    let whole = and_parts (not (is_view_in program one.proc)) (not (is_view_in program other.proc) && conflict (piece_of program one) (piece_of program other)) h in
    let rest = and_parts (not (is_view_in program other.proc)) (conflict (piece_of program one) (piece_of program other)) whole.1 in
    record { first = not_so (is_view_in program one.proc) whole.0; second = not_so (is_view_in program other.proc) rest.0; meet = rest.1 }

pub in_conflict_from : (program : Workload) (one other : PieceId) → AreInConflict program one other → are_in_conflict program one other ≡ true
in_conflict_from program one other is =
    and_from (not (is_view_in program one.proc)) (not (is_view_in program other.proc) && conflict (piece_of program one) (piece_of program other)) (so (is_view_in program one.proc) is.first)
    (and_from (not (is_view_in program other.proc)) (conflict (piece_of program one) (piece_of program other)) (so (is_view_in program other.proc) is.second) is.meet)
