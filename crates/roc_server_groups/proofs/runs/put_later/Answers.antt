use Rattle.std.proofs.Common.{◌<◌, ◌≤◌, ◌∙◌, length, sym, subst, arith}
use Rattle.roc_server_groups.proofs.GroupRuns.{got}
use Rattle.roc_server_groups.proofs.Restored.{past_end, set_later_at}
use Rattle.roc_server_groups.proofs.runs.put_later.Goals as goal

pub returns-then-at-as_slice : goal.returns-then-at-as_slice
returns-then-at-as_slice c =
    let within : c.args.at < length c.args.started.now.groups = subst (λ es. c.args.at < length es) c.as_slice.ensures c.if-at-as_slice.true in
    let here = got c.args.started.now.groups c.args.at within in
    c.keep_later.ensures.later here.0 here.1 ∙ set_later_at c.args.started.now.groups c.args.at here.0 c.args.later here.1

pub returns-else-at-as_slice : goal.returns-else-at-as_slice
returns-else-at-as_slice c =
    let none : length c.as_slice.result.now ≤ c.args.at = omega (arith, c.if-at-as_slice.false) in
    sym (past_end c.args.started.now.groups c.args.at c.args.later (subst (λ es. length es ≤ c.args.at) c.as_slice.ensures none))
