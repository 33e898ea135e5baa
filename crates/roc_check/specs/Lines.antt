-- The text of `check`, as lines: docs/FORMATS.md, "Text of check"
use Rattle.std.specs.Prelude.{ℕ, List, [], ◌∷◌, ◌++◌, length, map, filter, if◌then◌else◌}
use Rattle.std.specs.List.{flat_map, range_with_len}
use Rattle.roc_program.specs.Program.{Workload}
use Rattle.roc_program.specs.Pieces.{piece_of, piece_ids, all_pieces}
use Rattle.roc_program.specs.Conflict.{are_in_conflict}
use Rattle.roc_program.specs.declared.piece_id.PieceId.{PieceId}
use Rattle.roc_plan.specs.Groups.{Plan, is_view_of, groups_of, group_of}
use Rattle.roc_plan.specs.Accepted.{is_piece_immediate}
use Rattle.roc_report.specs.declared.line.Standing.{Standing}
use Rattle.roc_report.specs.declared.line.Standing.TheVariants.{Immediate, Promoted, Deferrable, View}
use Rattle.roc_report.specs.Checked.{CheckedLine, Shards, Proc, Piece, Group, Conflict, Accepted}

-- the procedures of a program, by number
abbrev pub procedures_of : Workload → List ℕ
procedures_of program = range_with_len 0 (length program.procedures)

-- of a view; or declared `now`, or immediate all the same, or none of these
abbrev pub standing_of : Plan → PieceId → Standing
standing_of plan id =
    if is_view_of plan id.proc then View
    else if (piece_of plan.program id).is_now then Immediate
    else if is_piece_immediate plan id then Promoted
    else Deferrable

abbrev pub piece_lines : Plan → (proc : ℕ) → List CheckedLine
piece_lines plan proc = map (λ id. Piece id (standing_of plan id)) (piece_ids plan.program proc)

abbrev pub group_line : Plan → (proc number : ℕ) → CheckedLine
group_line plan proc number = let group = group_of plan proc number in Group proc number group.is_immediate group.pieces

-- a view, each of whose pieces is a group, has no such lines
abbrev pub group_lines : Plan → (proc : ℕ) → List CheckedLine
group_lines plan proc = if is_view_of plan proc then [] else map (group_line plan proc) (range_with_len 0 (length (groups_of plan proc)))

-- a procedure, behind it its pieces, and behind these its groups
abbrev pub procedure_lines : Plan → (proc : ℕ) → List CheckedLine
procedure_lines plan proc = Proc proc ∷ piece_lines plan proc ++ group_lines plan proc

-- each of these pieces with itself and with those behind it, where the two conflict
abbrev pub conflict_lines : Workload → List PieceId → List CheckedLine
conflict_lines program [] = []
conflict_lines program (p ∷ behind) = map (Conflict p) (filter (are_in_conflict program p) (p ∷ behind)) ++ conflict_lines program behind

-- the whole text, of a plan
abbrev pub check_lines : Plan → List CheckedLine
check_lines plan =
    Shards plan.program.shards ∷ flat_map (procedure_lines plan) (procedures_of plan.program) ++ conflict_lines plan.program (all_pieces plan.program) ++ Accepted ∷ []
