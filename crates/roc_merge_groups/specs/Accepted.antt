-- Groups that the protocol may rely on: docs/CHECKER.md, "Accepted groups"
use Rattle.std.specs.Prelude.{◌≡◌, ◌≢◌, ◌↔◌, ℕ, Bool, ◌<◌, IsTrue, List, [], ◌∷◌, length, map, slice_index_or}
use Rattle.std.specs.List.{flat_map, list_any}
use Rattle.roc_program.specs.Program.{Workload, Procedure, Piece}
use Rattle.roc_program.specs.LookUps.{no_piece}
use Rattle.roc_program.specs.Pieces.{pieces_in}
use Rattle.roc_program.specs.declared.piece_id.PieceId.{PieceId}
use Rattle.roc_conflict.specs.Immediate.{IsImmediate}
use Rattle.roc_scgraph.specs.declared.vertex.Vertex.{Vertex}
use Rattle.roc_scgraph.specs.Cycles.{IsUnreorderable}
use Rattle.roc_merge_groups.specs.Groups.{piece_numbered, groups_in, group_at, first_piece}
use Rattle.roc_merge_groups.specs.Flow.{feeds, Leads}
use Rattle.roc_merge_groups.specs.Core.{AreCoLocated}
use Rattle.roc_merge_groups.specs.Grouping.{AreTogether, IsGrouping}

-- ---- the graph over groups is the graph of the program whose pieces are the groups

-- the pieces of a group as one: it is declared `now` where one of them is, stands where the first one does, and has the statements of all
abbrev pub fused : Procedure → List ℕ → Piece
fused procedure group =
    let at : ℕ → Piece = λ x. slice_index_or procedure.pieces x no_piece in
    record { name = []; is_now = list_any (λ x. (at x).is_now) group; place = (at (first_piece group)).place; body = flat_map (λ x. (at x).body) group }

-- procedures with their groups as their pieces
abbrev pub with_groups : List Procedure → List (List (List ℕ)) → List Procedure
with_groups [] groups = []
with_groups (p ∷ ps) [] = record p { pieces = [] } ∷ with_groups ps []
with_groups (p ∷ ps) (g ∷ groups) = record p { pieces = map (fused p) g } ∷ with_groups ps groups

abbrev pub over_groups : Workload → List (List (List ℕ)) → Workload
over_groups program groups = record program { procedures = with_groups program.procedures groups }

-- a group is immediate where a piece of it is
abbrev pub is_immediate_group : (PieceId → Bool) → List (List (List ℕ)) → PieceId → Bool
is_immediate_group is_immediate groups id = list_any (λ x. is_immediate (piece_numbered id.proc x)) (group_at (groups_in groups id.proc) id.piece)

-- ---- what is asked of groups

-- a group depends on another: a piece of it depends on a piece of the other
abbrev pub group_feeds : Workload → ℕ → List (List ℕ) → (g h : ℕ) → Bool
group_feeds program proc groups g h = list_any (λ z. list_any (feeds program proc z) (group_at groups h)) (group_at groups g)

-- the groups of a procedure: each is one piece, or co-located immediate pieces, and no two depend on each other in a circle
pub record IsAcceptedIn (program : Workload) (is_immediate : PieceId → Bool) (proc : ℕ) (groups : List (List ℕ)) : Type 0 where
  pub grouping : IsGrouping (length (pieces_in program proc)) groups
  pub co_located : (x y : ℕ) → x ≢ y → AreTogether groups x y → AreCoLocated program proc x y
  pub immediate : (x y : ℕ) → x ≢ y → AreTogether groups x y → IsTrue (is_immediate (piece_numbered proc x))
  pub no_circle : (g h : ℕ) → g ≢ h → Leads (group_feeds program proc groups) g h → ¬ Leads (group_feeds program proc groups) h g

-- the same of each procedure; the classes are the least set, and the graph over groups has no unreorderable cycle
pub record IsAcceptedGrouping (program : Workload) (is_immediate : PieceId → Bool) (groups : List (List (List ℕ))) : Type 0 where
  pub procedures : length groups ≡ length program.procedures
  pub each : (proc : ℕ) → proc < length program.procedures → IsAcceptedIn program is_immediate proc (groups_in groups proc)
  pub least : (id : PieceId) → IsTrue (is_immediate id) ↔ IsImmediate program id
  pub no_cycle : (cycle : List Vertex) → ¬ IsUnreorderable (over_groups program groups) (is_immediate_group is_immediate groups) cycle
