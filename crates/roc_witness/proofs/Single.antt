-- Two pieces have at most one cycle that is the least of the shortest
use Rattle.std.proofs.Common.{◌≡◌, ◌≤◌, Bool, List, length, sym, arith}
use Rattle.std.proofs.lemmas.Bool.{false_from_ne_true}
use Rattle.roc_program.specs.Program.{Workload}
use Rattle.roc_program.specs.declared.piece_id.PieceId.{PieceId}
use Rattle.roc_scgraph.specs.declared.vertex.Vertex.{Vertex}
use Rattle.roc_witness.specs.Order.{stands_before}
use Rattle.roc_witness.specs.Shortest.{IsShortestOf}
use Rattle.roc_witness.proofs.Ordered.{one_of_two}

pub one_cycle : (program : Workload) (is_immediate : PieceId → Bool) (p q : PieceId) (c d : List Vertex) → IsShortestOf program is_immediate p q c → IsShortestOf program is_immediate p q d → c ≡ d
one_cycle program is_immediate p q c d one other =
    let l : length c ≤ length d = one.shortest d other.is in
    let m : length d ≤ length c = other.shortest c one.is in
    let e : length c ≡ length d = omega arith in
    one_of_two c d e (false_from_ne_true (stands_before c d) (other.least c one.is e)) (false_from_ne_true (stands_before d c) (one.least d other.is (sym e)))
