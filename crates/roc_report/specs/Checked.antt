-- The lines of `check`, as plain data, and the text of each: docs/FORMATS.md, "Text of check" and "Refusals"
use Rattle.std.specs.Prelude.{ℕ, Bool, List, [], ◌∷◌, ◌++◌, codes, if◌then◌else◌}
use Rattle.std.specs.List.{flat_map}
use Rattle.std.specs.Fmt.{decimal}
use Rattle.roc_program.specs.Program.{Workload}
use Rattle.roc_program.specs.LookUps.{procedure_name, is_view_in}
use Rattle.roc_program.specs.Pieces.{piece_of}
use Rattle.roc_program.specs.declared.piece_id.PieceId.{PieceId}
use Rattle.roc_scgraph.specs.declared.vertex.Vertex.{Vertex}
use Rattle.roc_scgraph.specs.declared.vertex.Instance.{Instance}
use Rattle.roc_scgraph.specs.declared.vertex.Instance.TheVariants.{First, Second}
use Rattle.roc_scgraph.specs.Graph.{piece_id}
use Rattle.roc_report.specs.declared.line.Standing.{Standing}
use Rattle.roc_report.specs.Standing.{standing_text}
use Rattle.roc_report.specs.Text.{spaced}

pub data CheckedLine : Type 0 where
  Shards : (count : ℕ) → CheckedLine
  Proc : (proc : ℕ) → CheckedLine
  Piece : (id : PieceId) (standing : Standing) → CheckedLine
  Group : (proc number : ℕ) (is_immediate : Bool) (pieces : List ℕ) → CheckedLine
  Conflict : (first second : PieceId) → CheckedLine
  Accepted : CheckedLine
  Apart : (p q : PieceId) (cycle : List Vertex) → CheckedLine
  Blocked : (p q x : PieceId) (cycle : List Vertex) → CheckedLine

-- PROCEDURE.PIECE
abbrev pub piece_text : Workload → PieceId → List ℕ
piece_text program id = procedure_name program id.proc ++ codes "." ++ (piece_of program id).name

-- what stands behind the name of a view
abbrev pub view_text : Workload → (proc : ℕ) → List ℕ
view_text program proc = if is_view_in program proc then codes " view" else codes ""

-- the class of a group
abbrev pub class_text : Bool → List ℕ
class_text is_immediate = if is_immediate then codes "immediate" else codes "deferrable"

-- the names of pieces of a procedure, a space before each
abbrev pub names_text : Workload → (proc : ℕ) → List ℕ → List ℕ
names_text program proc pieces = flat_map (λ k. spaced (piece_of program (record { proc = proc; piece = k })).name) pieces

abbrev pub instance_text : Instance → List ℕ
instance_text First = codes "1"
instance_text Second = codes "2"

-- PROCEDURE.PIECE#INSTANCE
abbrev pub vertex_text : Workload → Vertex → List ℕ
vertex_text program v = piece_text program (piece_id v) ++ codes "#" ++ instance_text v.instance

-- the vertices of a cycle, behind a colon and with a space before each
abbrev pub cycle_text : Workload → List Vertex → List ℕ
cycle_text program cycle = codes ":" ++ flat_map (λ v. spaced (vertex_text program v)) cycle

-- a line without its end. What the program does not have has no name.
abbrev pub checked_words : Workload → CheckedLine → List ℕ
checked_words program (Shards count) = codes "shards " ++ decimal count
checked_words program (Proc proc) = codes "proc " ++ procedure_name program proc ++ view_text program proc
checked_words program (Piece id standing) = codes "piece " ++ (piece_of program id).name ++ spaced (standing_text standing)
checked_words program (Group proc number is_immediate pieces) = codes "group " ++ decimal number ++ spaced (class_text is_immediate) ++ names_text program proc pieces
checked_words program (Conflict first second) = codes "conflict " ++ piece_text program first ++ spaced (piece_text program second)
checked_words program Accepted = codes "accepted"
checked_words program (Apart p q cycle) = codes "refused apart " ++ piece_text program p ++ spaced (piece_text program q) ++ cycle_text program cycle
checked_words program (Blocked p q x cycle) =
    codes "refused blocked " ++ piece_text program p ++ spaced (piece_text program q) ++ codes " by " ++ piece_text program x ++ cycle_text program cycle

-- a line, which ends with a line feed
abbrev pub checked_text : Workload → CheckedLine → List ℕ
checked_text program line = checked_words program line ++ 10 ∷ []

-- lines, one after another
abbrev pub checked_lines_text : Workload → List CheckedLine → List ℕ
checked_lines_text program lines = flat_map (checked_text program) lines
