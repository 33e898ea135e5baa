use Rattle.std.proofs.Common.{List, subst}
use Rattle.roc_sequence.proofs.Fronts.{front_whole}
use Rattle.roc_await.specs.declared.group.Group.{Group}
use Rattle.roc_await.specs.Inner.Groups.{all_lacks}
use Rattle.roc_await.specs.Inner.Shortened.{AreShortened}
use Rattle.roc_await.proofs.ShorterGroups.{next_shorter}
use Rattle.roc_await.proofs.released.released.Goals as goal

pub loop-group-preserved : goal.loop-group-preserved
loop-group-preserved c =
    next_shorter c.args.gone.now c.args.groups.now c.loop-group.group-index c.group-item.result c.in_ok-shorter.field-0 (all_lacks c.loop-group.left.items) (all_lacks c.put.new.groups.items)
    c.loop-group-test.true c.group-item.is c.in_ok-shorter.ensures c.loop-group.invariant c.in_ok-put.ensures

pub returns : goal.returns
returns c =
    let Shorter : List Group → Type 0 = λ gs. AreShortened c.args.gone.now (all_lacks gs) (all_lacks c.loop-group.left.items) in
    subst Shorter (front_whole c.args.groups.now c.loop-group.group-index c.loop-group-test.false) c.loop-group.invariant
