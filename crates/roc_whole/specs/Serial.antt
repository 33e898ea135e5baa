-- Serial runs: whole procedures one after another, from the start store: docs/LANGUAGE.md, "Whole runs and serial runs"
use Rattle.std.specs.Prelude.{ℕ, ℤ, List, [], ◌∷◌, slice_index_or}
use Rattle.roc_base.specs.declared.id.TxnId.{TxnId}
use Rattle.roc_rows.specs.declared.cell.Cell.{Cell}
use Rattle.roc_rows.specs.Store.{Store, empty, write}
use Rattle.roc_program.specs.Program.{Workload, Procedure, Init}
use Rattle.roc_program.specs.LookUps.{no_procedure}
use Rattle.roc_whole.specs.Run.{Progress, whole_run}

-- the cell that an `init` line sets
abbrev pub init_cell : Init → Cell
init_cell i = record { table = i.table; place = i.place; id = i.id; column = i.column }

-- `init` lines in their order, so that a later line stands over an earlier one
abbrev pub after_inits : Store → List Init → Store
after_inits store [] = store
after_inits store (i ∷ is) = after_inits (write store (init_cell i) i.value) is

-- what all cells hold before anything runs
abbrev pub start_store : Workload → Store
start_store w = after_inits empty w.inits

-- the procedure of this number
abbrev pub procedure_at : Workload → ℕ → Procedure
procedure_at w number = slice_index_or w.procedures number no_procedure

-- a transaction: its id, and the procedure that it calls with which arguments
pub record Call : Type 0 where
  pub id : TxnId
  pub procedure : ℕ
  pub arguments : List ℤ

-- the reply of a transaction
pub record Answer : Type 0 where
  pub id : TxnId
  pub reply : List ℤ

-- one transaction, with nothing else in between
abbrev pub run_of : Workload → Store → Call → Progress
run_of w store call = whole_run (procedure_at w call.procedure) call.arguments store

-- what the cells hold after transactions that run one after another
abbrev pub serial_store : Workload → Store → List Call → Store
serial_store w store [] = store
serial_store w store (call ∷ calls) = serial_store w (run_of w store call).store calls

-- the reply of each transaction, where they run one after another
abbrev pub serial_answers : Workload → Store → List Call → List Answer
serial_answers w store [] = []
serial_answers w store (call ∷ calls) = record { id = call.id; reply = (run_of w store call).reply } ∷ serial_answers w (run_of w store call).store calls

-- the replies of a serial run from the start store
abbrev pub serial_run : Workload → List Call → List Answer
serial_run w calls = serial_answers w (start_store w) calls
