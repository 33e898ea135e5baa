-- One entry of a list of predecessors
use Rattle.std.specs.Prelude.{Bool, ◌||◌, IsTrue, min}
use Rattle.roc_base.specs.declared.id.TxnId.{TxnId}
use Rattle.roc_base.specs.declared.node.Shard.{Shard}

-- a transaction that comes before another: by immediate or by deferrable groups or both, and the shard that saw it
pub record Dependency : Type 0 where
  pub from : TxnId
  pub imm : Bool
  pub def : Bool
  pub at : Shard

-- by immediate groups, by deferrable ones, or by both
abbrev pub HasTag : Dependency → Type 0
HasTag d = IsTrue (d.imm || d.def)

-- the shard of the lower number
abbrev pub least_shard : Shard → Shard → Shard
least_shard a b = record { 0 = min a.0 b.0 }

-- two entries of one id as one: the tags of both, and the least shard
abbrev pub joined : Dependency → Dependency → Dependency
joined a b = record { from = a.from; imm = a.imm || b.imm; def = a.def || b.def; at = least_shard a.at b.at }
