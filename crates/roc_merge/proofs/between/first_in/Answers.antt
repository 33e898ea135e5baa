use Rattle.std.proofs.Common.{sym, subst, inl, inr, arith}
use Rattle.std.proofs.lemmas.Bool.{cases_eq}
use Rattle.roc_conflict.specs.Classes.{is_immediate}
use Rattle.roc_merge.specs.Inner.Firsts.{IsClear}
use Rattle.roc_merge_accept.proofs.Tested.{contended_there}
use Rattle.roc_merge.proofs.Firsts.{clear_by, first_three}
use Rattle.roc_merge.proofs.between.first_in.Goals as goal

pub returns-in-Some-clause-found : goal.returns-in-Some-clause-found
returns-in-Some-clause-found c =
    first_three c.args.workload.now (is_immediate c.args.classes.now) c.args.proc c.contended_in-contended.result c.flow_in-flow.result c.contended_in-contended.ensures c.flow_in-flow.ensures
    c.loop-p.p c.in-Some.q c.in-Some.x c.in-Some.ensures.found c.loop-p.invariant

pub loop-p-preserved : goal.loop-p-preserved
loop-p-preserved c = λ a b d l. elim (cases_eq a c.loop-p.p) [
  | inl e ↦ subst (λ n. IsClear c.args.workload.now (is_immediate c.args.classes.now) c.args.proc n b d) (sym e)
      (clear_by c.args.workload.now (is_immediate c.args.classes.now) c.args.proc c.contended_in-contended.result c.flow_in-flow.result c.contended_in-contended.ensures c.flow_in-flow.ensures c.loop-p.p b d (λ i j k. c.in_default.ensures.none b d j k))
  | inr n ↦ c.loop-p.invariant a b d (omega arith)
]

pub returns-clause-none : goal.returns-clause-none
returns-clause-none c = λ p q x cp cq b.
    let l = (contended_there c.args.workload.now (is_immediate c.args.classes.now) c.args.proc p cp).piece in
    c.loop-p.invariant p q x (omega arith) cp cq b
