-- In which order the groups of one transaction may run, and which groups may meet: docs/CHECKER.md, "Accepted groups"
use Rattle.std.specs.Prelude.{◌≡◌, ◌↔◌, ℕ, ◌<◌, Bool, not, ◌==◌, IsTrue, List, length, filter}
use Rattle.std.specs.List.{AllByRecursion, list_any, range_with_len}
use Rattle.roc_sequence.specs.Places.{IsListed, IsListedBefore, NoneTwice}
use Rattle.roc_program.specs.Conflict.{are_in_conflict}
use Rattle.roc_merge_groups.specs.Groups.{piece_numbered}
use Rattle.roc_plan.specs.Groups.{Plan, groups_of, group_of, is_immediate_of, inputs_of}

-- Each group of a procedure once, behind those that it takes values from, which are immediate; the deferrable groups by number
pub record AreInTurn (plan : Plan) (proc : ℕ) (order : List ℕ) : Type 0 where
  pub once : NoneTwice (λ a b. a == b) order
  pub members : (g : ℕ) → g < length (groups_of plan proc) ↔ IsListed (λ a b. a == b) order g
  pub deferrable :
      filter (λ g. not (is_immediate_of plan proc g)) order
      ≡ filter (λ g. not (is_immediate_of plan proc g)) (range_with_len 0 (length (groups_of plan proc)))
  pub behind : (g : ℕ) → AllByRecursion (λ input. IsTrue (is_immediate_of plan proc input.group) × IsListedBefore (λ a b. a == b) order input.group g) (inputs_of plan proc g)

-- group g of procedure p may meet group h of procedure q: a piece of the one is in static conflict with a piece of the other
abbrev pub may_meet : Plan → (p g q h : ℕ) → Bool
may_meet plan p g q h =
    list_any (λ x. list_any (λ y. are_in_conflict plan.program (piece_numbered p x) (piece_numbered q y)) (group_of plan q h).pieces) (group_of plan p g).pieces
