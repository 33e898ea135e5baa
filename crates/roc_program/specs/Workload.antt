-- The program that a workload holds: its fields, without where they lie in memory
use Rattle.std.specs.Prelude.{map}
use Rattle.roc_program.specs.declared.workload.Workload.TheInside.{Inside}
use Rattle.roc_program.specs.Program.{Workload}
use Rattle.roc_program.specs.Parts.{table, init, procedure}

abbrev pub program : Inside → Workload
program w = record { shards = w.shards; tables = map table w.tables.items; inits = map init w.inits.items; procedures = map procedure w.procedures.items }
