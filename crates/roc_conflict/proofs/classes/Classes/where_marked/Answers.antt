use Rattle.roc_conflict.specs.Classes.{is_immediate}
use Rattle.roc_conflict.proofs.Rows.{row_pushed}
use Rattle.roc_conflict.proofs.classes.Classes.where_marked.Goals as goal

pub loop-proc-preserved : goal.loop-proc-preserved
loop-proc-preserved c =
    row_pushed c.args.workload.now (is_immediate c.args.marks.now) (λ v. v.items) c.loop-proc.procedures.items c.push.new.self.items c.in_ok-row.field-0
    c.loop-proc.proc c.piece_count.result c.in_ok-push.ensures.items c.loop-proc.invariant c.in_ok-row.ensures c.piece_count.ensures
