use Rattle.std.proofs.Common.{◌∙◌, sym, subst}
use Rattle.roc_program.specs.WellFormed.{IsProgram}
use Rattle.roc_conflict.specs.Classes.{is_immediate}
use Rattle.roc_plan.specs.Accepted.{IsAccepted}
use Rattle.roc_plan_make.proofs.Kept.{plan_same, kept}
use Rattle.roc_plan_make.proofs.making.make_plan.Goals as goal

pub from_outlines-requires : goal.from_outlines-requires
from_outlines-requires c =
    kept c.args.workload c.in_ok-outlines.outlines.items (is_immediate c.args.classes) c.args.groups c.in_ok-outlines.ensures
    (c.are_accepted.ensures.0 c.if-not-are_accepted.false) (subst IsProgram c.workload.view_is c.workload.invariant)

pub returns-clause-made : goal.returns-clause-made
returns-clause-made c = c.from_outlines.ensures ∙ plan_same c.args.workload c.in_ok-outlines.outlines.items (is_immediate c.args.classes) c.args.groups c.in_ok-outlines.ensures

pub returns-clause-accepted : goal.returns-clause-accepted
returns-clause-accepted c =
    subst IsAccepted (sym c.from_outlines.ensures)
    (kept c.args.workload c.in_ok-outlines.outlines.items (is_immediate c.args.classes) c.args.groups c.in_ok-outlines.ensures
    (c.are_accepted.ensures.0 c.if-not-are_accepted.false) (subst IsProgram c.workload.view_is c.workload.invariant)).accepted
