use Rattle.std.proofs.Common.{◌≡◌, length, arith, rules}
use Rattle.roc_await.specs.Inner.Groups.{all_lacks}
use Rattle.roc_await.proofs.Regrouped.{none_regrouped, one_regrouped, none_left, all_regrouped}
use Rattle.roc_await.proofs.grown.grown.Goals as goal

pub loop-group-init : goal.loop-group-init
loop-group-init c = none_regrouped c.args.id c.args.fresh.now (all_lacks c.args.groups.items) c.new-grown.result.items (search rules)

pub loop-group-preserved : goal.loop-group-preserved
loop-group-preserved c =
    one_regrouped c.args.id c.args.fresh.now (all_lacks c.args.groups.items) (all_lacks c.loop-group.grown.items) (all_lacks c.put.new.groups.items) c.loop-group.groups.items c.pop.new.self.items c.in-Some.group c.in_ok-grow.field-0
    c.loop-group.invariant c.in-Some.ensures.items c.in_ok-grow.ensures c.in_ok-put.ensures

pub returns : goal.returns
returns c =
    let olds = all_lacks c.args.groups.items in
    let none : length c.loop-group.groups.items ≡ 0 = omega (arith, c.loop-group.groups.ok, c.in_default.ensures.cases.0) in
    let so = none_left c.args.id c.args.fresh.now olds (all_lacks c.loop-group.grown.items) c.loop-group.groups.items none c.loop-group.invariant in
    all_regrouped c.args.id c.args.fresh.now olds (all_lacks c.loop-group.grown.items) (all_lacks c.put-2.new.groups.items) c.in_ok-group_of.field-0 so c.in_ok-group_of.ensures c.in_ok-put-2.ensures
