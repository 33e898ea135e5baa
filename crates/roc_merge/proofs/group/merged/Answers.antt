use Rattle.std.proofs.Common.{arith}
use Rattle.roc_conflict.specs.Classes.{is_immediate}
use Rattle.std.proofs.Common.{map}
use Rattle.roc_merge.proofs.Merged.{row_pushed, all_merged}
use Rattle.roc_merge.proofs.group.merged.Goals as goal

pub loop-proc-preserved : goal.loop-proc-preserved
loop-proc-preserved c =
    row_pushed c.args.workload.now (is_immediate c.args.classes.now) (λ groups. map (λ g. g.items) groups.items) c.loop-proc.procedures.items c.push.new.self.items c.in_ok-merged_in.field-0 c.loop-proc.proc c.loop-proc.invariant
    c.in_ok-push.ensures.items c.in_ok-merged_in.ensures

pub returns : goal.returns
returns c =
    all_merged c.args.workload.now (is_immediate c.args.classes.now) (map (λ groups. map (λ g. g.items) groups.items) c.loop-proc.procedures.items) c.from_lists.result c.loop-proc.proc c.loop-proc.invariant (omega arith) c.from_lists.ensures
