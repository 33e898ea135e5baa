use Rattle.std.proofs.Common.{◌≡◌, Err, rules}
use Rattle.roc_conflict.specs.Classes.{is_immediate}
use Rattle.roc_merge.specs.declared.refusal.Refusal.TheVariants.{NoMemory}
use Rattle.roc_merge.proofs.Firsts.{not_apart}
use Rattle.roc_merge.proofs.Refusing.{apart_acceptable, apart_apart, apart_blocked, blocked_acceptable, blocked_apart, blocked_blocked, ok_acceptable, ok_apart, ok_blocked, memory_acceptable, memory_apart, memory_blocked}
use Rattle.roc_merge.proofs.merging.merge.Goals as goal

pub returns-in-Some-clause-acceptable : goal.returns-in-Some-clause-acceptable
returns-in-Some-clause-acceptable c = apart_acceptable c.args.workload.now (is_immediate c.args.classes.now) c.in-Some.p c.in-Some.q c.in-Some.ensures.found

pub returns-in-Some-clause-apart : goal.returns-in-Some-clause-apart
returns-in-Some-clause-apart c = apart_apart c.args.workload.now (is_immediate c.args.classes.now) c.in-Some.p c.in-Some.q c.in-Some.ensures.found

pub returns-in-Some-clause-blocked : goal.returns-in-Some-clause-blocked
returns-in-Some-clause-blocked c = apart_blocked c.args.workload.now (is_immediate c.args.classes.now) c.in-Some.p c.in-Some.q c.in-Some.ensures.found

pub returns-in-Some-first_blocked-clause-acceptable : goal.returns-in-Some-first_blocked-clause-acceptable
returns-in-Some-first_blocked-clause-acceptable c =
    blocked_acceptable c.args.workload.now (is_immediate c.args.classes.now) c.in-Some-first_blocked.p c.in-Some-first_blocked.q c.in-Some-first_blocked.x (c.in-Some-first_blocked.ensures.found (λ a b. not_apart c.args.workload.now (is_immediate c.args.classes.now) a b (c.in_default.ensures.none a.proc a.piece b.piece)))

pub returns-in-Some-first_blocked-clause-apart : goal.returns-in-Some-first_blocked-clause-apart
returns-in-Some-first_blocked-clause-apart c =
    blocked_apart c.args.workload.now (is_immediate c.args.classes.now) c.in-Some-first_blocked.p c.in-Some-first_blocked.q c.in-Some-first_blocked.x (c.in-Some-first_blocked.ensures.found (λ a b. not_apart c.args.workload.now (is_immediate c.args.classes.now) a b (c.in_default.ensures.none a.proc a.piece b.piece)))

pub returns-in-Some-first_blocked-clause-blocked : goal.returns-in-Some-first_blocked-clause-blocked
returns-in-Some-first_blocked-clause-blocked c =
    blocked_blocked c.args.workload.now (is_immediate c.args.classes.now) c.in-Some-first_blocked.p c.in-Some-first_blocked.q c.in-Some-first_blocked.x (c.in-Some-first_blocked.ensures.found (λ a b. not_apart c.args.workload.now (is_immediate c.args.classes.now) a b (c.in_default.ensures.none a.proc a.piece b.piece)))

pub returns-in_err-merged-clause-acceptable : goal.returns-in_err-merged-clause-acceptable
returns-in_err-merged-clause-acceptable c =
    let e : c.from_residual.result ≡ Err NoMemory = search rules in
    memory_acceptable c.args.workload.now (is_immediate c.args.classes.now) (λ proc p q. c.in_default.ensures.none proc p q) (λ proc p q x. c.in_default-first_blocked.ensures.none proc p q x) c.from_residual.result e

pub returns-in_err-merged-clause-apart : goal.returns-in_err-merged-clause-apart
returns-in_err-merged-clause-apart c =
    let e : c.from_residual.result ≡ Err NoMemory = search rules in
    memory_apart c.args.workload.now (is_immediate c.args.classes.now) (λ proc p q. c.in_default.ensures.none proc p q) (λ proc p q x. c.in_default-first_blocked.ensures.none proc p q x) c.from_residual.result e

pub returns-in_err-merged-clause-blocked : goal.returns-in_err-merged-clause-blocked
returns-in_err-merged-clause-blocked c =
    let e : c.from_residual.result ≡ Err NoMemory = search rules in
    memory_blocked c.args.workload.now (is_immediate c.args.classes.now) (λ proc p q. c.in_default.ensures.none proc p q) (λ proc p q x. c.in_default-first_blocked.ensures.none proc p q x) c.from_residual.result e

pub returns-clause-acceptable : goal.returns-clause-acceptable
returns-clause-acceptable c =
    ok_acceptable c.args.workload.now (is_immediate c.args.classes.now) (λ proc p q. c.in_default.ensures.none proc p q) (λ proc p q x. c.in_default-first_blocked.ensures.none proc p q x) c.in_ok-merged.field-0

pub returns-clause-apart : goal.returns-clause-apart
returns-clause-apart c =
    ok_apart c.args.workload.now (is_immediate c.args.classes.now) (λ proc p q. c.in_default.ensures.none proc p q) (λ proc p q x. c.in_default-first_blocked.ensures.none proc p q x) c.in_ok-merged.field-0

pub returns-clause-blocked : goal.returns-clause-blocked
returns-clause-blocked c =
    ok_blocked c.args.workload.now (is_immediate c.args.classes.now) (λ proc p q. c.in_default.ensures.none proc p q) (λ proc p q x. c.in_default-first_blocked.ensures.none proc p q x) c.in_ok-merged.field-0
