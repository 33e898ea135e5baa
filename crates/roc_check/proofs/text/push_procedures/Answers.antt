use Rattle.roc_check.specs.Lines.{procedure_lines}
use Rattle.roc_check.proofs.Added.{number_added}
use Rattle.roc_check.proofs.text.push_procedures.Goals as goal

pub loop-proc-preserved : goal.loop-proc-preserved
loop-proc-preserved c =
    let plan = c.args.plan.now in
    number_added plan.program c.args.text.now.items c.loop-proc.text.items c.push_procedure.new.text.items (procedure_lines plan) c.loop-proc.proc
    c.loop-proc.invariant c.in_ok-push_procedure.ensures
