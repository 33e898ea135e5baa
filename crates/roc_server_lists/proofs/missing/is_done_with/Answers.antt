use Rattle.std.proofs.Common.{◌≡◌, ◌<◌, sym, ap, arith}
use Rattle.roc_base.specs.declared.node.Shard.{Shard}
use Rattle.roc_server_lists.proofs.DoneSteps.{told_lower}
use Rattle.roc_server_lists.proofs.missing.is_done_with.Goals as goal

pub returns-then-told-own : goal.returns-then-told-own
returns-then-told-own c =
    let told : c.at.result.0 ≡ c.args.edge.at.0 = ap (λ (s : Shard). s.0) c.at.ensures.value in
    let low : c.args.edge.at.0 < c.args.shard.0 = omega (arith, told) in
    sym (told_lower c.args.shard c.args.started.now.groups c.args.parts.now.marks c.args.parts.now.table.known c.args.edge low)
