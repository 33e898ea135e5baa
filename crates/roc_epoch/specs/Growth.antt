-- Whether a program is a grown one of another, and what is wrong first where it is none
use Rattle.std.specs.Prelude.{◌≡◌, List, ◌++◌, Result, Ok, Err}
use Rattle.roc_program.specs.Program.{Workload}
use Rattle.roc_epoch.specs.Grown.{IsGrownFrom}
use Rattle.roc_epoch.specs.declared.fault.GrowthFault.{GrowthFault}
use Rattle.roc_epoch.specs.declared.fault.GrowthFault.TheVariants.{Shards, Table, Init, Proc}

abbrev pub StandsInFront : {A : Type 0} → (front whole : List A) → Type 0
StandsInFront {A} front whole = (more : List A) × (whole ≡ front ++ more)

-- each fault is told where its part does not stand and those before it do
abbrev pub IsGrowth : (old new : Workload) → Result (Unit {0}) GrowthFault → Type 0
IsGrowth old new (Ok _) = IsGrownFrom old new
IsGrowth old new (Err Shards) = ¬ (new.shards ≡ old.shards)
IsGrowth old new (Err Table) = (new.shards ≡ old.shards) × ¬ StandsInFront old.tables new.tables
IsGrowth old new (Err Init) = (new.shards ≡ old.shards) × StandsInFront old.tables new.tables × ¬ (new.inits ≡ old.inits)
IsGrowth old new (Err Proc) = (new.shards ≡ old.shards) × StandsInFront old.tables new.tables × (new.inits ≡ old.inits) × ¬ StandsInFront old.procedures new.procedures
