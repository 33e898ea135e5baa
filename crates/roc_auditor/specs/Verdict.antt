-- Which verdict over logs is right: docs/PROTOCOL.md, "Auditing"
use Rattle.std.specs.Prelude.{◌≡◌, ℕ, ◌<◌, Bool, true, false, ◌==◌, List, [], ◌∷◌, ◌++◌, length, map}
use Rattle.std.specs.List.{list_any}
use Rattle.roc_base.specs.declared.node.Node.{Node}
use Rattle.roc_base.specs.declared.node.Node.TheVariants.{Server, Coord}
use Rattle.roc_base.specs.declared.node.Shard.{Shard}
use Rattle.roc_plan.specs.Groups.{Plan}
use Rattle.roc_log.specs.declared.line.Log.{Log}
use Rattle.roc_judge.specs.declared.folded.Folded.{Folded}
use Rattle.roc_judge.specs.declared.judgement.Judgement.{Judgement}
use Rattle.roc_judge.specs.Judged.{IsJudged}
use Rattle.roc_fold.specs.Folded.{IsFolded, IsMismatchAt}
use Rattle.roc_auditor.specs.declared.verdict.Verdict.{Verdict}
use Rattle.roc_auditor.specs.declared.verdict.Verdict.TheVariants.{Mismatch, Judged}
use Rattle.roc_auditor.specs.declared.verdict.AuditFault.{AuditFault}
use Rattle.roc_auditor.specs.declared.verdict.AuditFault.TheVariants.{Gap, NoMemory}

-- ---- gaps

-- whose the logs are, in order
abbrev pub nodes_of : List Log → List Node
nodes_of logs = map (λ log. log.node) logs

-- the node is the server of the shard of this number
abbrev pub is_server_of : (shard : ℕ) → Node → Bool
is_server_of n (Server shard) = shard.0 == n
is_server_of n (Coord number) = false

-- one of these is that server
abbrev pub has_server : List Node → (shard : ℕ) → Bool
has_server nodes n = list_any (is_server_of n) nodes

-- the servers of the first so many shards are among these
abbrev pub HaveAllServers : List Node → (shards : ℕ) → Type 0
HaveAllServers nodes shards = (n : ℕ) → n < shards → has_server nodes n ≡ true

-- the least of so many shards whose server is none of these
pub record IsGapAmong (nodes : List Node) (shards : ℕ) (shard : Shard) : Type 0 where
  pub there : shard.0 < shards
  pub none : has_server nodes shard.0 ≡ false
  pub least : HaveAllServers nodes shard.0

-- the least shard of the plan whose server no log is of
abbrev pub IsGap : Plan → List Log → Shard → Type 0
IsGap plan logs shard = IsGapAmong (nodes_of logs) plan.program.shards shard

-- there is none
abbrev pub HaveNoGap : Plan → List Log → Type 0
HaveNoGap plan logs = HaveAllServers (nodes_of logs) plan.program.shards

-- ---- verdicts

-- the logs fold, one by one, and this is what they tell
abbrev pub AreFolded : Plan → List Log → List Folded → Type 0
AreFolded plan [] [] = Unit {0}
AreFolded plan [] (fold ∷ folds) = ⊥
AreFolded plan (log ∷ logs) [] = ⊥
AreFolded plan (log ∷ logs) (fold ∷ folds) = IsFolded plan log fold × AreFolded plan logs folds

-- the logs before this place fold, and the log there does not: this is its first line that does not stand next
pub record IsFirstMismatch (plan : Plan) (logs : List Log) (place line : ℕ) : Type 0 where
  pub before : List Log
  pub log : Log
  pub behind : List Log
  pub folds : List Folded
  pub parts : logs ≡ before ++ log ∷ behind
  pub at : place ≡ length before
  pub folded : AreFolded plan before folds
  pub is : IsMismatchAt plan log line

-- what is found, the first that holds
pub data IsVerdict (plan : Plan) (logs : List Log) : Verdict → Type 0 where
  a_mismatch : (place line : ℕ) → IsFirstMismatch plan logs place line → IsVerdict plan logs (Mismatch place line)
  a_judgement : (folds : List Folded) (judgement : Judgement)
      → AreFolded plan logs folds → IsJudged plan.program folds judgement → IsVerdict plan logs (Judged judgement)

-- ---- answers

-- a verdict is given only where each server has a log
pub record IsAuditedAs (plan : Plan) (logs : List Log) (verdict : Verdict) : Type 0 where
  pub whole : HaveNoGap plan logs
  pub is : IsVerdict plan logs verdict

abbrev pub IsAuditFault : Plan → List Log → AuditFault → Type 0
IsAuditFault plan logs (Gap shard) = IsGap plan logs shard
IsAuditFault plan logs NoMemory = Unit {0}
