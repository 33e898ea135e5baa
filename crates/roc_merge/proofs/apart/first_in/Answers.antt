use Rattle.std.proofs.Common.{sym, subst, inl, inr, arith}
use Rattle.std.proofs.lemmas.Bool.{cases_eq}
use Rattle.roc_conflict.specs.Classes.{is_immediate}
use Rattle.roc_merge.specs.Inner.Firsts.{IsJoined}
use Rattle.roc_merge_accept.proofs.Tested.{contended_there}
use Rattle.roc_merge.proofs.Firsts.{joined_by, first_pair}
use Rattle.roc_merge.proofs.apart.first_in.Goals as goal

pub returns-in-Some-clause-found : goal.returns-in-Some-clause-found
returns-in-Some-clause-found c =
    first_pair c.args.workload.now (is_immediate c.args.classes.now) c.args.proc c.contended_in-contended.result c.contended_in-contended.ensures c.loop-p.p c.in-Some.q c.in-Some.ensures.found c.loop-p.invariant

pub loop-p-preserved : goal.loop-p-preserved
loop-p-preserved c = λ a b l. elim (cases_eq a c.loop-p.p) [
  | inl e ↦ subst (λ n. IsJoined c.args.workload.now (is_immediate c.args.classes.now) c.args.proc n b) (sym e)
      (joined_by c.args.workload.now (is_immediate c.args.classes.now) c.args.proc c.contended_in-contended.result c.contended_in-contended.ensures c.loop-p.p b (λ order within. c.in_default.ensures.none b order within))
  | inr n ↦ c.loop-p.invariant a b (omega arith)
]

pub returns-clause-none : goal.returns-clause-none
returns-clause-none c = λ p q order cp cq.
    let l = (contended_there c.args.workload.now (is_immediate c.args.classes.now) c.args.proc p cp).piece in
    c.loop-p.invariant p q (omega arith) order cp cq
