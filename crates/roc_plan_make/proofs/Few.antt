-- What the limits of the language say of a procedure's groups and pieces
use Rattle.std.proofs.Common.{ℕ, ◌<◌, ◌≤◌, List, [], ◌∷◌, length, map, sym, subst, inl, inr, arith}
use Rattle.std.proofs.lemmas.Bool.{cases_lt}
use Rattle.std.proofs.lemmas.List.{get_or_past, length-map}
use Rattle.std.specs.Bool.{nat_lt}
use Rattle.std.specs.List.{AllByRecursion, filter_map}
use Rattle.roc_sequence.specs.Rising.{IsRising}
use Rattle.roc_sequence.proofs.Holds.{all_at, has_all}
use Rattle.roc_program.specs.LookUps.{no_piece}
use Rattle.roc_program.specs.Names.{output, bindings_of}
use Rattle.roc_program.specs.Program.{Piece, Procedure}
use Rattle.roc_merge_groups.specs.Grouping.{IsGrouping}
use Rattle.roc_merge_groups.specs.Parts.{IsPart}
use Rattle.roc_merge_accept.proofs.Parting.{few_rise, few_groups}
use Rattle.roc_plan.specs.Groups.{bound_in}
use Rattle.roc_plan.specs.Sized.{piece_at, IsSized}
use Rattle.roc_plan.proofs.Sized.{few_found, few_in_all, few_bound}

pub few_added : (piece : Piece) → length piece.body ≤ 64 → length (filter_map output piece.body) ≤ 64
few_added piece h = let l = few_found output piece.body in omega arith

-- also of a piece that is not there
pub few_here : (p : Procedure) → IsSized p → (k : ℕ) → length (piece_at p k).body ≤ 64
few_here p is k =
    elim (cases_lt k (length p.pieces)) [
      | inl l ↦ all_at (λ piece. length piece.body ≤ 64) p.pieces k no_piece is.statements l
      | inr past ↦ (let P : Piece → Type 0 = λ piece. length piece.body ≤ 64 in subst P (sym (get_or_past p.pieces k no_piece past)) (omega arith))
    ]

-- a procedure has few groups, and each binds few names
pub few_groups_of : (p : Procedure) (groups : List (List ℕ)) → IsSized p → IsGrouping (length p.pieces) groups → length groups ≤ 16
few_groups_of p groups is grouping = omega (arith, few_groups (length p.pieces) groups grouping, is.few_pieces)

few_rising : (xs : List ℕ) (n : ℕ) → IsRising nat_lt xs → AllByRecursion (λ x. x < n) xs → length xs ≤ n
few_rising xs n rising below = let r = few_rise (λ x. x) xs 0 n rising (has_all (λ x. 0 ≤ x) xs (λ x h. omega arith)) below in omega arith

pub few_names_of : (p : Procedure) (group : List ℕ) → IsSized p → IsPart (length p.pieces) group → length (bound_in p group) ≤ 1024
few_names_of p group is part =
    let few = few_in_all bindings_of (map (piece_at p) group) (all_of_map (λ piece. length (bindings_of piece) ≤ 64) (piece_at p) group (λ k. few_bound (piece_at p k) (few_here p is k))) in
    let long = length-map group (piece_at p) in
    let few_pieces = few_rising group (length p.pieces) part.rising part.below in
    let most = is.few_pieces in
    omega arith
  where
    all_of_map : {A B : Type 0} (P : B → Type 0) (f : A → B) (xs : List A) → ((a : A) → P (f a)) → AllByRecursion P (map f xs)
    all_of_map P f [] h = tt
    all_of_map P f (x ∷ xs) h = (h x, all_of_map P f xs h)
