use Rattle.std.proofs.Common.{List, subst}
use Rattle.std.proofs.lemmas.List.{take_all}
use Rattle.roc_base.specs.declared.id.TxnId.{TxnId}
use Rattle.roc_server_groups.proofs.FirstGroups.{firsts_left, without_more, without_none, AreWithout}
use Rattle.roc_server_groups.proofs.started_groups.keep_other_firsts.Goals as goal

pub loop-id-init : goal.loop-id-init
loop-id-init c = without_none c.args.firsts.now.entries

pub loop-id-preserved : goal.loop-id-preserved
loop-id-preserved c =
    without_more c.args.ids.now c.loop-id.id-index _ c.args.firsts.now.entries c.loop-id.firsts.entries c.remove.new.self.entries c.loop-id-test.true c.loop-id.invariant c.remove.ensures.updates.0

pub returns : goal.returns
returns c = λ es f. firsts_left c.args.ids.now c.args.firsts.now.entries c.loop-id.firsts.entries
    (subst (λ (ids : List TxnId). AreWithout ids c.args.firsts.now.entries c.loop-id.firsts.entries) (take_all c.loop-id.id-index c.args.ids.now c.loop-id-test.false) c.loop-id.invariant) es f
