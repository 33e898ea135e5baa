-- Static conflict: two pieces that may touch one cell, and at least one of them writes it. docs/LANGUAGE.md, "Conflicts"
use Rattle.std.specs.Prelude.{Bool, false, not, ◌&&◌, ◌==◌, List, [], if◌then◌else◌}
use Rattle.std.specs.List.{list_any}
use Rattle.roc_program.specs.Program.{Access, Statement, Get, Set, Out, Piece, Workload}
use Rattle.roc_program.specs.LookUps.{is_view_in}
use Rattle.roc_program.specs.Pieces.{piece_of}
use Rattle.roc_program.specs.declared.piece_id.PieceId.{PieceId}

-- the same table and column, whatever the places and ids
abbrev pub is_same_column : Access → Access → Bool
is_same_column a b = (a.table == b.table) && (a.column == b.column)

-- the statements access one column, and are not both reads
abbrev pub collide : Statement → Statement → Bool
collide (Get n a) (Get m b) = false
collide (Get n a) (Set b v) = is_same_column a b
collide (Get n a) (Out v) = false
collide (Set a u) (Get m b) = is_same_column a b
collide (Set a u) (Set b v) = is_same_column a b
collide (Set a u) (Out v) = false
collide (Out u) s = false

-- a statement of the one collides with a statement of the other
abbrev pub conflict : Piece → Piece → Bool
conflict p q = list_any (λ s. list_any (collide s) q.body) p.body

-- of pieces by number: one that is not there accesses nothing. Pieces of views are in no conflict
abbrev pub are_in_conflict : Workload → PieceId → PieceId → Bool
are_in_conflict program one other =
    not (is_view_in program one.proc) && (not (is_view_in program other.proc) && conflict (piece_of program one) (piece_of program other))

-- the statements that may collide with those of others: none of a piece of a view
abbrev pub exposed : Workload → PieceId → List Statement
exposed program id = if is_view_in program id.proc then [] else (piece_of program id).body
