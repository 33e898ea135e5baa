use Rattle.std.proofs.Common.{◌∙◌, map, sym, arith}
use Rattle.roc_merge_groups.specs.Accepted.{group_feeds}
use Rattle.roc_merge_groups.proofs.Paths.{below_none}
use Rattle.roc_merge_accept.proofs.circle.steps_of.Goals as goal

pub returns : goal.returns
returns c = λ a b l m. c.loop-from.invariant.0 a b (omega arith) m ∙ sym (below_none (group_feeds c.args.workload.now c.args.proc (map (λ g. g.items) c.args.groups.now)) a b)
