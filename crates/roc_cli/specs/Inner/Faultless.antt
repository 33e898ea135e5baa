-- Calls that nothing is wrong with, calls for a shard that the workload lacks, and calls that cannot be done
use Rattle.std.specs.Prelude.{◌≡◌, ℕ, List, Option, Ok}
use Rattle.roc_base.specs.declared.node.Shard.{Shard}
use Rattle.roc_cli_nodes.specs.Call.{RunCall, WholeCall}
use Rattle.roc_cli.specs.Done.{Rejects}
use Rattle.roc_cli.specs.Audited.{Refutes}
use Rattle.roc_cli_nodes.specs.Words.{NamesNodes}
use Rattle.roc_cli_nodes.specs.NodeEnds.{NodesEnd}
use Rattle.roc_cli_nodes.specs.Nodes.{AreNodesEnded, IsChildBlamed}
use Rattle.roc_cli.specs.Refused.{AreRefusedWords, IsRefused}
use Rattle.roc_cli.specs.Stopped.{CutsOutput}
use Rattle.roc_cli.specs.Fit.{IsFit, AuditFits, NodesFit, MissesShard}
use Rattle.roc_cli.specs.Honest.{HonestFits}
use Rattle.roc_cli.specs.Unfit.{LacksPlan, LacksWorkload, LacksSchedule, LacksCluster, LacksRequests, HasFaultyFile, LacksLogs}
use Rattle.roc_cli.specs.Inner.Ends.{Ends}

-- the words are taken, and no file is to blame
pub record IsFaultless (call : RunCall) : Type 0 where
  pub taken : (line : List ℕ) → AreRefusedWords call line → ⊥
  pub acceptable : Rejects call → ⊥
  pub right : (line : List ℕ) → IsRefused call line → ⊥

-- no file is to blame, nothing was due to be written, and nothing was done
pub record IsShardless (call : WholeCall) : Type 0 where
  pub acceptable : Rejects call.run → ⊥
  pub right : (line : List ℕ) → IsRefused call.run line → ⊥
  pub uncut : CutsOutput call.run → ⊥
  pub unrun : (end : NodesEnd) → AreNodesEnded call end → ⊥
  pub no_child : (shard : Shard) (status : Option ℕ) → IsChildBlamed call shard status → ⊥
  pub undone : Ends call.run (Ok tt) → ⊥
  pub unrefuted : Refutes call.run → ⊥

-- the words are taken, nothing was done, and nothing was found to be wrong with logs
pub record IsUndone (call : WholeCall) : Type 0 where
  pub taken : (line : List ℕ) → AreRefusedWords call.run line → ⊥
  pub unrun : (end : NodesEnd) → AreNodesEnded call end → ⊥
  pub no_child : (shard : Shard) (status : Option ℕ) → IsChildBlamed call shard status → ⊥
  pub undone : Ends call.run (Ok tt) → ⊥
  pub unrefuted : Refutes call.run → ⊥

-- ..and no file is refused
pub record IsUnplanned (call : WholeCall) : Type 0 where
  pub is : IsUndone call
  pub right : (line : List ℕ) → IsRefused call.run line → ⊥

-- ..or none is rejected, and nothing was due to be written
pub record IsUnwritten (call : WholeCall) : Type 0 where
  pub is : IsUndone call
  pub acceptable : Rejects call.run → ⊥
  pub uncut : CutsOutput call.run → ⊥

-- ..and a file that is refused is said to be so by this line
pub record IsSaidBy (call : WholeCall) (line : List ℕ) : Type 0 where
  pub is : IsUnwritten call
  pub only : (said : List ℕ) → IsRefused call.run said → said ≡ line

-- ..or none is rejected
pub record IsUnplayed (call : WholeCall) : Type 0 where
  pub is : IsUndone call
  pub acceptable : Rejects call.run → ⊥

-- an audit whose words and files nothing is wrong with, and that asks for no nodes
pub record IsAuditable (call : RunCall) : Type 0 where
  pub is : IsFaultless call
  pub alone : NamesNodes call.words → ⊥

-- ..and whose logs are explained
pub record IsExplicable (call : RunCall) : Type 0 where
  pub is : IsAuditable call
  pub unrefuted : Refutes call → ⊥

-- what is known of calls that fit, of those for a shard that is missing, and of those that cannot be done
pub record AreFitting (call : WholeCall) : Type 0 where
  pub files : IsFit call.run → IsFaultless call.run
  pub nodes : NodesFit call.run → IsFaultless call.run
  pub shardless : MissesShard call.run → IsShardless call
  pub planless : LacksPlan call.run → IsUnplanned call
  pub workloadless : LacksWorkload call.run → IsUnwritten call
  pub scheduleless : LacksSchedule call.run → IsUnplayed call
  pub audits : AuditFits call.run → IsAuditable call.run
  pub honest : HonestFits call.run → IsExplicable call.run
  pub clusterless : LacksCluster call.run → IsUnwritten call
  pub listless : LacksRequests call.run → IsUnwritten call
  pub faulty : (line : List ℕ) → HasFaultyFile call.run line → IsSaidBy call line
  pub logless : LacksLogs call.run → IsUnwritten call
