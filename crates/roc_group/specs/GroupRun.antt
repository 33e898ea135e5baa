-- A group's part of a procedure's run: docs/PROTOCOL.md, "Groups"
use Rattle.std.specs.Prelude.{ℕ, ℤ, ◌+◌, List, [], ◌∷◌, length, map}
use Rattle.roc_rows.specs.Store.{Store}
use Rattle.roc_program.specs.Program.{Piece}
use Rattle.roc_plan.specs.Groups.{Plan, procedure_of, group_of, pieces_at, environment_in, bound_of}
use Rattle.roc_program.specs.Values.{value_of_name}
use Rattle.roc_whole.specs.Run.{Progress, progress, after_pieces}
use Rattle.roc_group.specs.declared.access.Access.{Access}
use Rattle.roc_group.specs.Accesses.{uses_of_pieces}

-- a group of a procedure with what it is given: the procedure's arguments, and the values of names of other groups
pub record GroupCall : Type 0 where
  pub proc : ℕ
  pub group : ℕ
  pub args : List ℤ
  pub inputs : List ℤ

abbrev pub call : (proc group : ℕ) → (args inputs : List ℤ) → GroupCall
call proc group args inputs = record { proc = proc; group = group; args = args; inputs = inputs }

abbrev pub group_pieces : Plan → GroupCall → List Piece
group_pieces plan c = pieces_at (procedure_of plan c.proc) (group_of plan c.proc c.group).pieces

-- where a group begins
abbrev pub begin : Plan → GroupCall → Store → Progress
begin plan c store = progress store (environment_in (procedure_of plan c.proc) (group_of plan c.proc c.group).pieces c.args c.inputs) []

-- its pieces run in program order
abbrev pub group_run : Plan → GroupCall → Store → Progress
group_run plan c store = after_pieces (begin plan c store) (group_pieces plan c)

-- the cells that it uses, in the order in which it uses them
abbrev pub group_uses : Plan → GroupCall → Store → List Access
group_uses plan c store = uses_of_pieces (begin plan c store) (group_pieces plan c)

-- the values of the names that it binds, in the order in which they are bound
abbrev pub bound_by_run : Plan → GroupCall → Store → List ℤ
bound_by_run plan c store = map (value_of_name (group_run plan c store).environment) (bound_of plan c.proc c.group)

-- how many statements pieces have
abbrev pub statements_in : List Piece → ℕ
statements_in [] = 0
statements_in (piece ∷ pieces) = length piece.body + statements_in pieces

abbrev pub statements_of : Plan → (proc group : ℕ) → ℕ
statements_of plan proc group = statements_in (pieces_at (procedure_of plan proc) (group_of plan proc group).pieces)
