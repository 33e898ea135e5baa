-- What the tests of a list of vertices say of it as a cycle
use Rattle.std.proofs.Common.{◌≡◌, ◌↔◌, ◌≤◌, Bool, true, false, List, ◌∷◌, length, IsTrue, sym, ◌∙◌, subst, arith}
use Rattle.std.proofs.lemmas.Bool.{false≢true}
use Rattle.std.specs.List.{AllByRecursion, list_all, list_any}
use Rattle.roc_sequence.specs.Places.{NoneTwice}
use Rattle.roc_program.specs.Program.{Workload}
use Rattle.roc_program.specs.Pieces.{HasPiece}
use Rattle.roc_program.specs.declared.piece_id.PieceId.{PieceId}
use Rattle.roc_scgraph.specs.declared.vertex.Vertex.{Vertex}
use Rattle.roc_scgraph.specs.Graph.{piece_id, is_vertex, edge}
use Rattle.roc_scgraph.specs.Cycles.{IsUnreorderable, steps_to, is_fixed, is_sibling_edge, is_conflict_edge}
use Rattle.roc_witness.proofs.Tests.{all_from_test, test_from_all}

module _ (program : Workload) (immediate : PieceId → Bool) (first : Vertex) (rest : List Vertex) where
  abbrev Fixed : Vertex × Vertex → Bool
  Fixed n = is_fixed (edge program immediate n.0 n.1)

  pub not_fixed : (cycle : List Vertex) → cycle ≡ first ∷ rest → list_all (λ n. is_fixed (edge program immediate n.0 n.1)) (steps_to first rest first) ≡ false → IsUnreorderable program immediate cycle → ⊥
  not_fixed cycle e h is = let whole = subst (IsUnreorderable program immediate) e is in false≢true (sym h ∙ test_from_all Fixed (steps_to first rest first) whole.fixed)

  pub by_conflict : (cycle : List Vertex) → cycle ≡ first ∷ rest → 2 ≤ length rest → AllByRecursion (λ v. HasPiece program (piece_id v)) cycle → NoneTwice is_vertex cycle
      → list_all (λ n. is_fixed (edge program immediate n.0 n.1)) (steps_to first rest first) ≡ true
      → list_any (λ n. is_sibling_edge (edge program immediate n.0 n.1)) (steps_to first rest first) ≡ true
      → (t : Bool) → t ≡ list_any (λ n. is_conflict_edge (edge program immediate n.0 n.1)) (steps_to first rest first) → IsTrue t ↔ IsUnreorderable program immediate cycle
  by_conflict cycle e long there once fixed sibling t is = (
    λ h. subst (IsUnreorderable program immediate) (sym e)
        (record {
          long = omega arith;
          distinct = subst (NoneTwice is_vertex) e once;
          present = subst (AllByRecursion (λ v. HasPiece program (piece_id v))) e there;
          fixed = all_from_test Fixed (steps_to first rest first) fixed;
          some_sibling = sibling;
          some_conflict = sym is ∙ h;
        }),
    λ cycle_is. is ∙ (subst (IsUnreorderable program immediate) e cycle_is).some_conflict,
  )
