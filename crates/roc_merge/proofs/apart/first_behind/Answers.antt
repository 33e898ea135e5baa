use Rattle.std.proofs.Common.{sym, subst, inl, inr, arith}
use Rattle.std.proofs.lemmas.Bool.{cases_eq}
use Rattle.roc_merge.specs.Inner.Tables.{IsJoinedBy}
use Rattle.roc_merge.proofs.apart.first_behind.Goals as goal

pub returns-then-are_apart-clause-found : goal.returns-then-are_apart-clause-found
returns-then-are_apart-clause-found c = record { order = omega arith; is = c.are_apart.ensures.yes c.if-are_apart.true; qs = c.loop-q.invariant }

pub loop-q-preserved : goal.loop-q-preserved
loop-q-preserved c = λ b l m. elim (cases_eq b c.loop-q.q) [
  | inl e ↦ subst (IsJoinedBy c.args.workload.now c.args.proc c.args.contended.now c.args.p) (sym e) (c.are_apart.ensures.no c.if-are_apart.false)
  | inr n ↦ c.loop-q.invariant b l (omega arith)
]

pub returns-clause-none : goal.returns-clause-none
returns-clause-none c = λ b l m. c.loop-q.invariant b l (omega arith)
