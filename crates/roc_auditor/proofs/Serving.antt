-- Servers that are among nodes
use Rattle.std.proofs.Common.{◌≡◌, ℕ, ◌+◌, ◌<◌, ◌≤◌, true, ◌⊎◌, List, inl, inr, subst, arith}
use Rattle.std.proofs.lemmas.Bool.{cases_lt}
use Rattle.roc_base.specs.declared.node.Node.{Node}
use Rattle.roc_auditor.specs.Verdict.{has_server, HaveAllServers}

pub one_more_there : (nodes : List Node) (k : ℕ) → HaveAllServers nodes k → has_server nodes k ≡ true → HaveAllServers nodes (k + 1)
one_more_there nodes k all this n within = go (cases_lt n k)
  where
    go : (n < k) ⊎ (k ≤ n) → has_server nodes n ≡ true
    go (inl less) = all n less
    go (inr more) = let e : k ≡ n = omega (arith, within, more) in subst (λ m. has_server nodes m ≡ true) e this
