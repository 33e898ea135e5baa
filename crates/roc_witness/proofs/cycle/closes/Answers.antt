use Rattle.std.proofs.Common.{sym, ◌∙◌, arith}
use Rattle.std.proofs.lemmas.Bool.{false≢true}
use Rattle.roc_conflict.specs.Classes.{is_immediate}
use Rattle.roc_witness.proofs.Cycles.{not_fixed, by_conflict}
use Rattle.roc_witness.proofs.cycle.closes.Goals as goal

pub returns-then-not-are_fixed : goal.returns-then-not-are_fixed
returns-then-not-are_fixed c = (
  λ h. absurd (false≢true h),
  λ is. absurd (not_fixed c.args.workload.now (is_immediate c.args.classes.now) c.args.first c.args.rest.now c.args.cycle.now c.requires (sym c.are_fixed.ensures ∙ c.if-not-are_fixed.true) is),
)

pub returns : goal.returns
returns c =
    by_conflict c.args.workload.now (is_immediate c.args.classes.now) c.args.first c.args.rest.now c.args.cycle.now c.requires (omega arith) (c.are_present.ensures.0 c.if-not-are_present.false) (c.are_distinct.ensures.0 c.if-not-are_distinct.false)
    (sym c.are_fixed.ensures ∙ c.if-not-are_fixed.false) (sym c.has_sibling.ensures ∙ c.if-not-has_sibling.false) c.has_conflict.result c.has_conflict.ensures
