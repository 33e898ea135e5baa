-- Whether a server has no log
use Rattle.std.specs.Prelude.{ℕ, List, Option, Some, None}
use Rattle.roc_base.specs.declared.node.Node.{Node}
use Rattle.roc_base.specs.declared.node.Shard.{Shard}
use Rattle.roc_auditor.specs.Verdict.{IsGapAmong, HaveAllServers}

abbrev pub IsGapOrNone : List Node → (shards : ℕ) → Option Shard → Type 0
IsGapOrNone nodes shards None = HaveAllServers nodes shards
IsGapOrNone nodes shards (Some shard) = IsGapAmong nodes shards shard
