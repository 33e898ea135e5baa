-- Cycles and contended pieces, where the immediate pieces are the least set
use Rattle.std.proofs.Common.{◌≡◌, ◌≢◌, ◌↔◌, Bool, true, List, [], ◌∷◌, ◌++◌, ◌≤◌, length, map, IsTrue, sym, ◌∙◌, arith}
use Rattle.std.proofs.lemmas.Bool.{and_parts, and_from}
use Rattle.std.proofs.lemmas.List.{length-map}
use Rattle.roc_sequence.specs.Lists.{Has}
use Rattle.roc_program.specs.Program.{Workload}
use Rattle.roc_program.specs.Pieces.{HasPiece, all_pieces}
use Rattle.roc_program.specs.Conflict.{are_in_conflict}
use Rattle.roc_program.specs.declared.piece_id.PieceId.{PieceId}
use Rattle.roc_conflict.specs.Immediate.{IsImmediate, in_conflict}
use Rattle.roc_conflict.specs.Contended.{has_conflict, is_contended}
use Rattle.roc_conflict.proofs.Mirrored.{conflict_mirrored}
use Rattle.roc_conflict.proofs.Members.{found_by_any}
use Rattle.roc_conflict.proofs.Present.{some_conflict}
use Rattle.roc_conflict.proofs.Least.{present_from_immediate}
use Rattle.roc_scgraph.specs.declared.vertex.Vertex.{Vertex}
use Rattle.roc_scgraph.specs.Graph.{piece_id, are_siblings}
use Rattle.roc_scgraph.specs.Cycles.{neighbours, first_instance, IsUnreorderable, HasTwoContended}
use Rattle.roc_scgraph.proofs.Vertices.{siblings_share, same_piece}
use Rattle.roc_scgraph.proofs.Crossings.{Meets, AreTwo}
use Rattle.roc_scgraph.proofs.Turned.{two_contended}
use Rattle.roc_scgraph.proofs.Middles.{second}
use Rattle.roc_scgraph.proofs.Meeting.{CycleThrough, meeting}

abbrev pub AreLeast : Workload → (PieceId → Bool) → Type 0
AreLeast program is_immediate = (id : PieceId) → IsTrue (is_immediate id) ↔ IsImmediate program id

contended_from_meets : (program : Workload) (is_immediate : PieceId → Bool) (v : Vertex) → Meets program is_immediate v → IsTrue (is_contended program is_immediate (piece_id v))
contended_from_meets program is_immediate v m = and_from _ _ m.at_start (some_conflict program (piece_id v) m.other m.conflict)

pub only : (program : Workload) (is_immediate : PieceId → Bool) → AreLeast program is_immediate
    → (cycle : List Vertex) (a b : Vertex) → IsUnreorderable program is_immediate cycle → Has (a, b) (neighbours cycle) → IsTrue (are_siblings a b) → HasTwoContended program is_immediate a.proc
only program is_immediate least cycle a b is has inside =
    let two : AreTwo program is_immediate a = two_contended program is_immediate (conflict_mirrored program) cycle a b is has inside in
    let share_one = siblings_share a two.one two.one_inside in
    let share_other = siblings_share a two.other two.other_inside in
    record {
      one = piece_id two.one;
      other = piece_id two.other;
      one_of = sym share_one.0;
      other_of = sym share_other.0;
      apart = λ e. two.apart (same_piece two.one two.other e (sym share_one.1 ∙ share_other.1));
      one_contended = contended_from_meets program is_immediate two.one two.one_meets;
      other_contended = contended_from_meets program is_immediate two.other two.other_meets;
    }

pub each : (program : Workload) (is_immediate : PieceId → Bool) → AreLeast program is_immediate
    → (p q : PieceId) → p ≢ q → p.proc ≡ q.proc → IsTrue (is_contended program is_immediate p) → IsTrue (is_contended program is_immediate q)
    → (between : List Vertex) × IsUnreorderable program is_immediate (first_instance p ∷ (between ++ first_instance q ∷ [])) × (length between ≤ 4)
each program is_immediate least p q apart same cp cq =
    let of_p = and_parts (is_immediate p) (has_conflict program p) cp in
    let of_q = and_parts (is_immediate q) (has_conflict program q) cq in
    let x = found_by_any (are_in_conflict program p) (all_pieces program) of_p.1 in
    let y = found_by_any (are_in_conflict program q) (all_pieces program) of_q.1 in
    let there : (id : PieceId) → is_immediate id ≡ true → HasPiece program id = λ id h. present_from_immediate program id ((least id).0 h) in
    let closed : (one other : PieceId) → is_immediate one ≡ true → are_in_conflict program one other ≡ true → is_immediate other ≡ true = λ one other h k. (least other).1 (in_conflict ((least one).0 h) k) in
    let r : CycleThrough program is_immediate p q = meeting program is_immediate (conflict_mirrored program) there closed p q x.0 y.0 apart same of_p.0 of_q.0 x.1 y.1 in
    (map second (r.next ∷ r.more), r.is, omega (arith, length-map r.more second, r.few))
