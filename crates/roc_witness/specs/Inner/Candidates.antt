-- The cycles among which the shortest is looked for
use Rattle.std.specs.Prelude.{◌≡◌, ◌≢◌, ℕ, ◌<◌, ◌≤◌, Bool, false, ◌&&◌, ◌||◌, ◌==◌, nat_lt, List, [], ◌∷◌, ◌++◌, length, Option, Some, None}
use Rattle.std.specs.Prelude.{MatchOption, if◌then◌else◌}
use Rattle.roc_program.specs.declared.piece_id.PieceId.{PieceId}
use Rattle.roc_scgraph.specs.declared.vertex.Vertex.{Vertex}
use Rattle.roc_scgraph.specs.Cycles.{first_instance}
use Rattle.roc_witness.specs.Order.{stands_before}
use Rattle.roc_witness.specs.Inner.Vertices.{open_vertices}
use Rattle.roc_witness.specs.Inner.Walks.{may_step, IsWalk}

-- shorter, or as long and before it
abbrev pub is_better : List Vertex → List Vertex → Bool
is_better a b = nat_lt (length a) (length b) || ((length a == length b) && stands_before a b)

-- the better of two, the first where neither is
abbrev pub better_of : Option (List Vertex) → Option (List Vertex) → Option (List Vertex)
better_of None b = b
better_of (Some a) None = Some a
better_of (Some a) (Some b) = if is_better b a then Some b else Some a

-- the best of those that are so, or none where there is none
abbrev pub IsBest : (List Vertex → Type 0) → Option (List Vertex) → Type 0
IsBest Is found = MatchOption found ((d : List Vertex) → Is d → ⊥) (λ c. Is c × ((d : List Vertex) → Is d → is_better d c ≡ false))

-- a piece of the procedure of p, in the first instance
abbrev pub sibling : PieceId → ℕ → Vertex
sibling p piece = first_instance (record { proc = p.proc; piece = piece })

-- p, and behind it the vertex from which the cycle leaves their instance, where that is another
abbrev pub lead : PieceId → ℕ → List Vertex
lead p piece = if p.piece == piece then first_instance p ∷ [] else first_instance p ∷ sibling p piece ∷ []

-- a cycle that leaves the instance from this piece, which is not q, with a walk of at most six vertices to q
pub record LeavesFrom (vertices : List Vertex) (table : List (List Bool)) (p q : PieceId) (piece : ℕ) (cycle : List Vertex) : Type 0 where
  pub other : piece ≢ q.piece
  pub way : List Vertex
  pub short : length way ≤ 6
  pub walk : IsWalk (may_step table (sibling p piece)) (open_vertices vertices (first_instance p) (sibling p piece) (first_instance q)) (sibling p piece) (first_instance q) way
  pub is : cycle ≡ (lead p piece ++ way) ++ first_instance q ∷ []

-- one that leaves from one of the first pieces
pub record LeavesBelow (vertices : List Vertex) (table : List (List Bool)) (p q : PieceId) (count : ℕ) (cycle : List Vertex) : Type 0 where
  pub piece : ℕ
  pub below : piece < count
  pub leaves : LeavesFrom vertices table p q piece cycle
