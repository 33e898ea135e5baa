-- Whether a workload has the shard that is to be served
use Rattle.std.specs.Prelude.{◌≡◌, ℕ, Bool, true, false, nat_le, Option, Some, None, Result, Ok, Err}
use Rattle.roc_base.specs.declared.node.Shard.{Shard}
use Rattle.roc_cli_files.specs.declared.fault.Fault.{Fault}
use Rattle.roc_cli_files.specs.declared.fault.Fault.TheVariants.{NoShard}
use Rattle.roc_cli_files.specs.declared.nodes.Nodes.{Nodes}

-- a shard is asked for that is not one of so many
abbrev pub lacks_shard : Option Shard → (shards : ℕ) → Bool
lacks_shard None shards = false
lacks_shard (Some shard) shards = nat_le shards shard.0

-- what was read, where the workload has the shard
abbrev pub IsJudgedShard : Option Shard → Nodes → Result Nodes Fault → Type 0
IsJudgedShard shard nodes (Ok kept) = (kept ≡ nodes) × (lacks_shard shard nodes.plan.program.shards ≡ false)
IsJudgedShard shard nodes (Err fault) = (fault ≡ NoShard) × (lacks_shard shard nodes.plan.program.shards ≡ true)
