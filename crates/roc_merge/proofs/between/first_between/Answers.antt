use Rattle.std.proofs.Common.{sym, subst, inl, inr, arith}
use Rattle.std.proofs.lemmas.Bool.{cases_eq}
use Rattle.roc_merge.specs.Inner.Tables.{IsClearBy}
use Rattle.roc_merge.proofs.between.first_between.Goals as goal

pub returns-then-is_in_the_way-clause-found : goal.returns-then-is_in_the_way-clause-found
returns-then-is_in_the_way-clause-found c = (record { is = c.is_in_the_way.ensures.yes c.if-is_in_the_way.true; xs = c.loop-x.invariant }, omega arith)

pub loop-x-preserved : goal.loop-x-preserved
loop-x-preserved c = λ b m. elim (cases_eq b c.loop-x.x) [
  | inl e ↦ subst (IsClearBy c.args.workload.now c.args.proc c.args.contended.now c.args.flow.now c.args.p c.args.q) (sym e) (c.is_in_the_way.ensures.no c.if-is_in_the_way.false)
  | inr n ↦ c.loop-x.invariant b (omega arith)
]

pub returns-clause-none : goal.returns-clause-none
returns-clause-none c = λ b m. c.loop-x.invariant b (omega arith)
