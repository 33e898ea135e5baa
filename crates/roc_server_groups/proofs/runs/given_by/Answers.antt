use Rattle.std.proofs.Common.{◌≡◌, IfOk, OnOk, sym, subst}
use Rattle.roc_group.specs.GroupRun.{GroupCall, group_run}
use Rattle.roc_step.specs.Fits.{IsCallOf}
use Rattle.roc_server_groups.proofs.runs.given_by.Goals as goal

pub given_with-requires : goal.given_with-requires
given_with-requires c = subst (IsCallOf c.args.plan.now) (sym c.in_ok-known.ensures) c.requires

pub returns-clause-store : goal.returns-clause-store
returns-clause-store c =
    let P : GroupCall → Type 0 = λ k. OnOk c.given_with.result (c.given_with.new.rows.store ≡ (group_run c.args.plan.now k c.args.rows.now.store).store) in
    subst P c.in_ok-known.ensures c.given_with.ensures.store

pub returns-clause-given : goal.returns-clause-given
returns-clause-given c =
    let P : GroupCall → Type 0 = λ k. IfOk c.given_with.result (λ given. given ≡ (group_run c.args.plan.now k c.args.rows.now.store).reply) in
    subst P c.in_ok-known.ensures c.given_with.ensures.given
