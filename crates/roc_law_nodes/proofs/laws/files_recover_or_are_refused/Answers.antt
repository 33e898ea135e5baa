use Rattle.std.proofs.Common.{refl}
use Rattle.roc_kept.specs.Laws.{HaveOutcomes}
use Rattle.roc_law_protocol.proofs.Findings.{decided_there, handled}
use Rattle.roc_step.specs.Reads.{reads_behind}
use Rattle.roc_law_nodes.proofs.laws.files_recover_or_are_refused.Goals as goal

pub returns : goal.returns
returns c plan tag shard bytes eight read = c.opened_or_refused.ensures.each plan tag shard bytes eight read outcomes
  where
    outcomes : HaveOutcomes plan
    outcomes s v msg =
        let r = handled c.order_exists.ensures c.order_is_one.ensures.members plan s msg in
        let d = decided_there r.0.state.lists.links in
        record { step = r.0; reads = reads_behind plan d.0 v msg r.0; handles = r.1; answers = record { decided = d.0; found = d.1; is = refl } }
