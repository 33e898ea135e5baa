use Rattle.std.proofs.Common.{sym, subst, inl, inr, arith}
use Rattle.std.proofs.lemmas.Bool.{cases_eq}
use Rattle.roc_conflict.specs.Classes.{is_immediate}
use Rattle.roc_merge.specs.Inner.Firsts.{IsClear}
use Rattle.roc_merge_accept.proofs.Tested.{contended_there}
use Rattle.roc_merge.proofs.Firsts.{least_three}
use Rattle.roc_merge.proofs.between.first_blocked.Goals as goal

pub returns-in-Some-clause-found : goal.returns-in-Some-clause-found
returns-in-Some-clause-found c =
    least_three c.args.workload.now (is_immediate c.args.classes.now) c.loop-proc.proc c.in-Some.between.p c.in-Some.between.q c.in-Some.between.x c.in-Some.ensures.found c.loop-proc.invariant

pub loop-proc-preserved : goal.loop-proc-preserved
loop-proc-preserved c = λ a p q x l. elim (cases_eq a c.loop-proc.proc) [
  | inl e ↦ subst (λ n. IsClear c.args.workload.now (is_immediate c.args.classes.now) n p q x) (sym e) (c.in_default.ensures.none p q x)
  | inr n ↦ c.loop-proc.invariant a p q x (omega arith)
]

pub returns-clause-none : goal.returns-clause-none
returns-clause-none c = λ proc p q x cp cq b.
    let l = (contended_there c.args.workload.now (is_immediate c.args.classes.now) proc p cp).procedure in
    c.loop-proc.invariant proc p q x (omega arith) cp cq b
