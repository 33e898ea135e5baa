-- A program that has grown
use Rattle.std.specs.Prelude.{◌≡◌, List, ◌++◌}
use Rattle.roc_program.specs.Program.{Workload, Table, Procedure}

-- the same shards and cells at the start; the old tables and procedures are fronts of the new ones
pub record IsGrownFrom (old new : Workload) : Type 0 where
  pub shards : new.shards ≡ old.shards
  pub tables : (more : List Table) × (new.tables ≡ old.tables ++ more)
  pub inits : new.inits ≡ old.inits
  pub procedures : (more : List Procedure) × (new.procedures ≡ old.procedures ++ more)
