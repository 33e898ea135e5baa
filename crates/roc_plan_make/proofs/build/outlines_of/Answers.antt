use Rattle.std.proofs.Common.{◌<◌, length, get_or, sym, subst, arith}
use Rattle.roc_sequence.proofs.Holds.{all_at}
use Rattle.roc_program.specs.LookUps.{no_procedure}
use Rattle.roc_program.specs.Program.{Procedure}
use Rattle.roc_program.specs.WellFormed.{IsProcedure}
use Rattle.roc_conflict.specs.Classes.{is_immediate}
use Rattle.roc_merge_groups.specs.Groups.{piece_numbered, groups_in}
use Rattle.roc_merge_groups.specs.Grouping.{IsGrouping}
use Rattle.roc_plan.specs.Sized.{IsSized}
use Rattle.roc_plan_make.specs.Inner.Built.{AreDrawn}
use Rattle.roc_plan.proofs.Sized.{sized, lent}
use Rattle.roc_plan_make.proofs.Drawn.{all_more, all_drawn}
use Rattle.roc_plan_make.proofs.build.outlines_of.Goals as goal

pub outlines_in-requires-clause-grouping : goal.outlines_in-requires-clause-grouping
outlines_in-requires-clause-grouping c =
    let l : c.loop-proc.proc < length c.args.workload.now.procedures = omega (arith, c.loop-proc-test.true, c.procedure_count-proc-end.ensures) in
    let P : Procedure → Type 0 = λ p. IsGrouping (length p.pieces) (groups_in c.args.groups.now c.loop-proc.proc) in
    subst P (lent c.procedures.result.now c.args.workload.now.procedures c.loop-proc.proc c.from.result c.index-procedures-from.result c.procedures.ensures.value c.from.ensures l c.index-procedures-from.is) (c.requires.each c.loop-proc.proc l).grouping

pub outlines_in-requires-clause-sized : goal.outlines_in-requires-clause-sized
outlines_in-requires-clause-sized c =
    let l : c.loop-proc.proc < length c.args.workload.now.procedures = omega (arith, c.loop-proc-test.true, c.procedure_count-proc-end.ensures) in
    subst IsSized (lent c.procedures.result.now c.args.workload.now.procedures c.loop-proc.proc c.from.result c.index-procedures-from.result c.procedures.ensures.value c.from.ensures l c.index-procedures-from.is)
    (sized c.args.workload.now.tables (get_or c.args.workload.now.procedures c.loop-proc.proc no_procedure) (all_at (IsProcedure c.args.workload.now.tables) c.args.workload.now.procedures c.loop-proc.proc no_procedure c.procedures.ensures.well_formed.procedures l))

pub loop-proc-preserved : goal.loop-proc-preserved
loop-proc-preserved c =
    let l : c.loop-proc.proc < length c.args.workload.now.procedures = omega (arith, c.loop-proc-test.true, c.procedure_count-proc-end.ensures) in
    let groups = groups_in c.args.groups.now c.loop-proc.proc in
    let P : Procedure → Type 0 = λ p. AreDrawn p (λ x. is_immediate c.args.classes.now (piece_numbered c.loop-proc.proc x)) groups c.in_ok-outlines_in.field-0.items (length groups) in
    all_more c.args.workload.now (is_immediate c.args.classes.now) c.args.groups.now (λ row. row.items) c.loop-proc.rows.items c.push.new.self.items c.in_ok-outlines_in.field-0 c.loop-proc.proc c.loop-proc.invariant c.in_ok-push.ensures.items
    (subst P (sym (lent c.procedures.result.now c.args.workload.now.procedures c.loop-proc.proc c.from.result c.index-procedures-from.result c.procedures.ensures.value c.from.ensures l c.index-procedures-from.is)) c.in_ok-outlines_in.ensures)

pub returns : goal.returns
returns c = all_drawn c.args.workload.now (is_immediate c.args.classes.now) c.args.groups.now (λ row. row.items) c.loop-proc.rows.items c.loop-proc.proc c.loop-proc.invariant (omega (arith, c.loop-proc-test.false, c.loop-proc.auto.proc-end, c.procedure_count-proc-end.ensures))
