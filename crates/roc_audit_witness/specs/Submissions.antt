-- What a history is asked, so that its serial runs can be made
use Rattle.std.specs.Prelude.{ℕ, ℤ, ◌<◌, List, length}
use Rattle.roc_sequence.specs.Lists.{Has}
use Rattle.roc_base.specs.declared.id.TxnId.{TxnId}
use Rattle.roc_program.specs.Program.{Workload}
use Rattle.roc_audit.specs.declared.entry.Entry.{Entry}
use Rattle.roc_audit.specs.declared.entry.Entry.TheVariants.{Submitted}

-- each submission names a procedure of the program
abbrev pub NamesProcedures : Workload → List Entry → Type 0
NamesProcedures program history = (t : TxnId) (proc : ℕ) (args : List ℤ) → Has (Submitted t proc args) history → proc < length program.procedures
