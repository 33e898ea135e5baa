-- The pieces and the vertices of a program, in lists
use Rattle.std.proofs.Common.{◌≡◌, ℕ, zero, suc, ◌+◌, ◌<◌, ◌≤◌, List, [], ◌∷◌, length, sym, subst, inl, inr, refl, ap, arith}
use Rattle.std.proofs.lemmas.Bool.{cases_eq}
use Rattle.std.specs.List.{flat_map, range_with_len}
use Rattle.roc_sequence.specs.Lists.{Has}
use Rattle.roc_sequence.proofs.Holds.{all_has}
use Rattle.roc_sequence.proofs.Members.{has_map, has_flat_map, from_has_map, from_has_flat_map}
use Rattle.roc_sequence.proofs.Ranges.{range_below}
use Rattle.roc_program.specs.Program.{Workload}
use Rattle.roc_program.specs.Pieces.{pieces_in, HasPiece, piece_ids, all_pieces}
use Rattle.roc_program.specs.declared.piece_id.PieceId.{PieceId}
use Rattle.roc_scgraph.specs.Graph.{piece_id}
use Rattle.roc_scgraph.specs.declared.vertex.Vertex.{Vertex}
use Rattle.roc_scgraph.specs.declared.vertex.Instance.{Instance}
use Rattle.roc_scgraph.specs.declared.vertex.Instance.TheVariants.{First, Second}

-- the numbers of a range
has_number : (a n j : ℕ) → a ≤ j → j < a + n → Has j (range_with_len a n)
has_number a zero j l m = absurd (omega arith)
has_number a (suc n) j l m = elim (cases_eq j a) [ inl e ↦ inl e | inr apart ↦ inr (has_number (a + 1) n j (omega arith) (omega arith)) ]

number_listed : (n k : ℕ) → k < n → Has k (range_with_len 0 n)
number_listed n k l = has_number 0 n k (omega arith) (omega arith)

listed_number : (n k : ℕ) → Has k (range_with_len 0 n) → k < n
listed_number n k h = all_has (λ m. m < n) k (range_with_len 0 n) (range_below 0 n n (omega arith)) h

-- a piece of the list is one of the program, and each of these is on the list
pub listed_piece : (program : Workload) (id : PieceId) → Has id (all_pieces program) → HasPiece program id
listed_piece program id h =
    let r = from_has_flat_map (piece_ids program) id (range_with_len 0 (length program.procedures)) h in
    let s = from_has_map (λ k. record { proc = r.0; piece = k }) id (range_with_len 0 (length (pieces_in program r.0))) r.2 in
    subst (HasPiece program) (sym s.2) (record { procedure = listed_number (length program.procedures) r.0 r.1; piece = listed_number (length (pieces_in program r.0)) s.0 s.1 })

pub piece_listed : (program : Workload) (id : PieceId) → HasPiece program id → Has id (all_pieces program)
piece_listed program id there =
    let count : ℕ = length (pieces_in program id.proc) in
    has_flat_map (piece_ids program) id id.proc (range_with_len 0 (length program.procedures)) (number_listed (length program.procedures) id.proc there.procedure)
    (has_map (λ k. record { proc = id.proc; piece = k }) id.piece (range_with_len 0 count) (number_listed count id.piece there.piece))

-- both instances of each piece
abbrev instances : PieceId → List Vertex
instances id = record { proc = id.proc; piece = id.piece; instance = First } ∷ record { proc = id.proc; piece = id.piece; instance = Second } ∷ []

pub vertices_of : Workload → List Vertex
vertices_of program = flat_map instances (all_pieces program)

pub vertex_listed : (program : Workload) (v : Vertex) → HasPiece program (piece_id v) → Has v (vertices_of program)
unfolding vertices_of
vertex_listed program v there = has_flat_map instances v (piece_id v) (all_pieces program) (piece_listed program (piece_id v) there) (among v.instance refl)
  where
    among : (i : Instance) → v.instance ≡ i → Has v (instances (piece_id v))
    among First e = inl (ap (λ (j : Instance). record { proc = v.proc; piece = v.piece; instance = j }) e)
    among Second e = inr (inl (ap (λ (j : Instance). record { proc = v.proc; piece = v.piece; instance = j }) e))
