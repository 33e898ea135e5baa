use Rattle.std.proofs.Common.{sym, subst, inl, inr, arith}
use Rattle.std.proofs.lemmas.Bool.{cases_eq}
use Rattle.roc_merge.specs.Inner.Tables.{IsClearBy}
use Rattle.roc_merge.proofs.between.first_from.Goals as goal

pub returns-in-Some-clause-found : goal.returns-in-Some-clause-found
returns-in-Some-clause-found c = record { is = c.in-Some.ensures.found.0; within = (omega arith, c.in-Some.ensures.found.1); qs = c.loop-q.invariant }

pub loop-q-preserved : goal.loop-q-preserved
loop-q-preserved c = λ b d l m. elim (cases_eq b c.loop-q.q) [
  | inl e ↦ subst (λ n. IsClearBy c.args.workload.now c.args.proc c.args.contended.now c.args.flow.now c.args.p n d) (sym e) (c.in_default.ensures.none d m)
  | inr n ↦ c.loop-q.invariant b d (omega arith) m
]

pub returns-clause-none : goal.returns-clause-none
returns-clause-none c = λ b d l m. c.loop-q.invariant b d (omega arith) m
