-- Shards in datagrams.
use Rattle.std.proofs.Common.{◌≡◌, ℕ, ◌<◌, ◌≤◌, ap, arith}
use Rattle.roc_program.specs.Program.{Workload}
use Rattle.roc_program.specs.WellFormed.{IsProgram}

-- the numbers of shards that a program has fit a datagram
pub last_shard_fits : (lent program : Workload) (shard : ℕ) → lent ≡ program → IsProgram lent → shard < program.shards → shard ≤ 63
last_shard_fits lent program shard same ok below = let few : lent.shards ≤ 64 = ok.few_shards in let e = ap (λ (p : Workload). p.shards) same in omega arith
