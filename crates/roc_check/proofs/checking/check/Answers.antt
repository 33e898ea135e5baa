use Rattle.std.proofs.Common.{Err}
use Rattle.roc_check.proofs.Judging.{checked, planned}
use Rattle.roc_check.proofs.checking.check.Goals as goal

-- no workload text
pub returns-in-Err-clause-checked : goal.returns-in-Err-clause-checked
returns-in-Err-clause-checked c = c.fault_of_grammar.ensures c.args.text.now c.in-Err.ensures.fault

pub returns-in-Err-clause-only : goal.returns-in-Err-clause-only
returns-in-Err-clause-only c =
    planned c.args.text.now (Err c.fault_of_grammar.result) (c.plans_are_unique.ensures.plan c.args.text.now) (c.fault_of_grammar.ensures c.args.text.now c.in-Err.ensures.fault)

-- not in scope
pub returns-in-Err-resolve-clause-checked : goal.returns-in-Err-resolve-clause-checked
returns-in-Err-resolve-clause-checked c = c.fault_of_scope.ensures c.args.text.now _ c.in-Ok.ensures.found c.in-Err-resolve.ensures.fault

pub returns-in-Err-resolve-clause-only : goal.returns-in-Err-resolve-clause-only
returns-in-Err-resolve-clause-only c =
    planned c.args.text.now (Err c.fault_of_scope.result) (c.plans_are_unique.ensures.plan c.args.text.now)
    (c.fault_of_scope.ensures c.args.text.now _ c.in-Ok.ensures.found c.in-Err-resolve.ensures.fault)

-- a program
pub returns-in-Ok-resolve-clause-checked : goal.returns-in-Ok-resolve-clause-checked
returns-in-Ok-resolve-clause-checked c =
    checked c.args.text.now c.in-Ok-resolve.workload c.plan_of.result
    (record { tree = _; text = c.in-Ok.ensures.found; in_scope = c.in-Ok-resolve.ensures.in_scope; is = c.in-Ok-resolve.ensures.program }) c.plan_of.ensures

pub returns-in-Ok-resolve-clause-only : goal.returns-in-Ok-resolve-clause-only
returns-in-Ok-resolve-clause-only c =
    planned c.args.text.now c.plan_of.result (c.plans_are_unique.ensures.plan c.args.text.now) (returns-in-Ok-resolve-clause-checked c)
