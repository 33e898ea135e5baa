use Rattle.roc_conflict.specs.Classes.{is_immediate}
use Rattle.std.proofs.Common.{map}
use Rattle.roc_merge.specs.Inner.Tables.{holds}
use Rattle.roc_merge.proofs.Grouped.{merged_by}
use Rattle.roc_merge.proofs.group.merged_in.Goals as goal

pub returns : goal.returns
returns c =
    merged_by c.args.workload.now (is_immediate c.args.classes.now) c.args.proc (holds c.core_of-core.result) c.count_of.result (λ groups. map (λ g. g.items) groups.items) c.groups_by.result
    c.core_of-core.ensures c.count_of.ensures.value c.groups_by.ensures
