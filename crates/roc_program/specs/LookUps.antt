-- The parts of a program by number, and what they are called. What is not there is empty.
use Rattle.std.specs.Prelude.{ℕ, pos, Bool, false, not, ◌&&◌, nat_lt, List, [], length, Option, position, slice_index_or}
use Rattle.std.specs.Str.{bytes_eq}
use Rattle.roc_program.specs.Program.{Workload, Procedure, Piece, Table, Number}

-- what stands for a piece, a procedure and a table that are not there
abbrev pub no_piece : Piece
no_piece = record { name = []; is_now = false; place = Number (pos 0); body = [] }

abbrev pub no_procedure : Procedure
no_procedure = record { name = []; is_view = false; arguments = 0; names = 0; labels = []; pieces = [] }

abbrev pub no_table : Table
no_table = record { name = []; arity = 0; columns = [] }

abbrev pub table_at : List Table → ℕ → Table
table_at tables table = slice_index_or tables table no_table

-- the number of the first procedure of this name
abbrev pub procedure_named : Workload → List ℕ → Option ℕ
procedure_named program name = position (λ procedure. bytes_eq procedure.name name) program.procedures

abbrev pub procedure_name : Workload → ℕ → List ℕ
procedure_name program proc = (slice_index_or program.procedures proc no_procedure).name

-- the procedure of this number only reads; one that is not there is no view
abbrev pub is_view_in : Workload → ℕ → Bool
is_view_in program proc = (slice_index_or program.procedures proc no_procedure).is_view

-- there is such a procedure, and it may write
abbrev pub is_transaction_in : Workload → ℕ → Bool
is_transaction_in program proc = nat_lt proc (length program.procedures) && not (is_view_in program proc)

-- the number of the first procedure of this name that may write
abbrev pub transaction_named : Workload → List ℕ → Option ℕ
transaction_named program name = position (λ procedure. bytes_eq procedure.name name && not procedure.is_view) program.procedures

abbrev pub table_name : Workload → ℕ → List ℕ
table_name program table = (table_at program.tables table).name

abbrev pub columns_of : Workload → ℕ → List (List ℕ)
columns_of program table = (table_at program.tables table).columns

abbrev pub column_name : Workload → (table column : ℕ) → List ℕ
column_name program table column = slice_index_or (columns_of program table) column []
