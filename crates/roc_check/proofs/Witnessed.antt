-- The two pieces that a refusal names lie on a cycle
use Rattle.std.proofs.Common.{◌≡◌, ◌≢◌, ◌<◌, ◌≤◌, Bool, IsTrue, List, [], ◌∷◌, ◌++◌, refl, sym, ap, arith}
use Rattle.roc_program.specs.Program.{Workload}
use Rattle.roc_program.specs.WellFormed.{IsProgram}
use Rattle.roc_program.specs.Pieces.{piece_of}
use Rattle.roc_program.specs.declared.piece_id.PieceId.{PieceId}
use Rattle.roc_conflict.specs.Contended.{is_contended}
use Rattle.roc_scgraph.specs.declared.vertex.Vertex.{Vertex}
use Rattle.roc_scgraph.specs.Cycles.{first_instance}
use Rattle.roc_scgraph.proofs.Contended.{each}
use Rattle.roc_witness.specs.Shortest.{IsCycleOf}
use Rattle.roc_merge_groups.specs.Groups.{piece_numbered}
use Rattle.roc_merge_groups.specs.Core.{AreCoLocated}
use Rattle.roc_merge_groups.specs.Refusals.{AreApart, IsInTheWay}
use Rattle.roc_merge_groups.proofs.Forward.{rises}
use Rattle.roc_check.specs.Checked.{AreImmediate}

module _ (program : Workload) (is_immediate : PieceId → Bool) (least : AreImmediate program is_immediate) where
  abbrev pub HasCycle : PieceId → PieceId → Type 0
  HasCycle p q = (cycle : List Vertex) × IsCycleOf program is_immediate p q cycle

  cycle_of_two : (p q : PieceId) → p ≢ q → p.proc ≡ q.proc → IsTrue (is_contended program is_immediate p) → IsTrue (is_contended program is_immediate q) → HasCycle p q
  cycle_of_two p q apart same cp cq =
      let r = each program is_immediate least p q apart same cp cq in
      (first_instance p ∷ (r.0 ++ first_instance q ∷ []), record { between = r.0; ends = refl; unreorderable = r.1 })

  pub apart_cycle : (p q : PieceId) → AreApart program is_immediate p q → HasCycle p q
  apart_cycle p q is =
      let behind : p.piece < q.piece = is.in_order in
      cycle_of_two p q (λ e. let same : p.piece ≡ q.piece = ap (λ (id : PieceId). id.piece) e in absurd (omega arith)) (sym is.one_procedure) is.first is.second

  -- were they one piece, so would be what is between them, since data flows forward
  pub blocked_cycle : IsProgram program → (p q x : PieceId) → IsInTheWay program is_immediate p q x → HasCycle p q
  blocked_cycle well p q x is = cycle_of_two p q (λ e. is.unlike (at_one_place e)) (sym is.one_procedure) is.first is.second
    where
      at_one_place : p ≡ q → AreCoLocated program p.proc p.piece x.piece
      at_one_place e =
          let one : p.piece ≤ x.piece = rises program well p.proc p.piece x.piece is.between.behind in
          let other : x.piece ≤ q.piece = rises program well p.proc x.piece q.piece is.between.before in
          let ends : p.piece ≡ q.piece = ap (λ (id : PieceId). id.piece) e in
          let same : p.piece ≡ x.piece = omega arith in
          ap (λ n. (piece_of program (piece_numbered p.proc n)).place) same
