use Rattle.std.proofs.Common.{◌≤◌, ◌+◌, ◌-◌, ◌^◌, min, sym, subst, ◌∙◌, arith}
use Rattle.roc_server_reads.proofs.CountedWrites.{version-with_accesses}
use Rattle.roc_server_reads.proofs.readoks.version_then.Goals as goal

pub returns : goal.returns
returns c =
    let small : c.get.result ≤ 2 ^ 64 - 1 = omega arith in
    c.saturating_add.ensures ∙ (λ i. min (c.get.ensures i + c.count_writes-writes.ensures i) (2 ^ 64 - 1))
    ∙ sym (version-with_accesses c.args.versions.now.counts c.args.cell c.args.ran.now (subst (λ n. n ≤ 2 ^ 64 - 1) c.get.ensures small))
