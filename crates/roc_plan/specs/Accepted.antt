-- Plans that the layers above may rely on: docs/CHECKER.md, "Accepted groups"
use Rattle.std.specs.Prelude.{ℕ, Bool, ◌&&◌, ◌==◌, List, length, map}
use Rattle.std.specs.List.{list_any, range_with_len}
use Rattle.roc_program.specs.Program.{Workload}
use Rattle.roc_program.specs.WellFormed.{IsProgram}
use Rattle.roc_program.specs.declared.piece_id.PieceId.{PieceId}
use Rattle.roc_merge_groups.specs.Groups.{piece_numbered, groups_in}
use Rattle.roc_merge_groups.specs.Accepted.{IsAcceptedGrouping}
use Rattle.roc_plan.specs.Groups.{Group, Plan, groups_of}

-- a group of these pieces: it is immediate where a piece of it is
abbrev pub group_with : (PieceId → Bool) → ℕ → List ℕ → Group
group_with is_immediate proc pieces = record { pieces = pieces; is_immediate = list_any (λ x. is_immediate (piece_numbered proc x)) pieces }

-- a program with these groups of each procedure
abbrev pub grouped_plan : Workload → (PieceId → Bool) → List (List (List ℕ)) → Plan
grouped_plan program is_immediate groups =
    record {
      program = program;
      groups = map (λ proc. map (group_with is_immediate proc) (groups_in groups proc)) (range_with_len 0 (length program.procedures));
    }

-- the pieces of each group
abbrev pub grouping_of : Plan → List (List (List ℕ))
grouping_of plan = map (map (λ g. g.pieces)) plan.groups

-- a piece's class is that of its group
abbrev pub is_piece_immediate : Plan → PieceId → Bool
is_piece_immediate plan id = list_any (λ g. g.is_immediate && list_any (λ x. x == id.piece) g.pieces) (groups_of plan id.proc)

-- a well-formed program, whose groups the protocol may rely on: they partition its pieces, and a group is immediate exactly where its
-- pieces are in the least set
pub record IsAccepted (plan : Plan) : Type 0 where
  pub well_formed : IsProgram plan.program
  pub grouping : IsAcceptedGrouping plan.program (is_piece_immediate plan) (grouping_of plan)
