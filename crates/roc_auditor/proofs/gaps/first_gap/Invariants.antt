-- the servers so far are there
use Rattle.roc_auditor.specs.Verdict.{HaveAllServers}
use Rattle.roc_auditor.proofs.gaps.first_gap.Given as goal

abbrev pub invariant-loop-shard : goal.invariant-loop-shard
invariant-loop-shard l = HaveAllServers l.nodes l.shard
