use Rattle.std.proofs.Common.{◌<◌, ◌∙◌, refl, subst}
use Rattle.roc_group.specs.declared.access.Access.{Access}
use Rattle.roc_server_index.specs.GroupRefs.{spare_at}
use Rattle.roc_server_groups.proofs.IndexSteps.{room_none, room_more}
use Rattle.roc_server_groups.proofs.indexed.reserve_group.Goals as goal

pub loop-access-init : goal.loop-access-init
loop-access-init c = record { refs = λ d. refl; room = room_none c.args.index.now }

pub loop-access-preserved : goal.loop-access-preserved
loop-access-preserved c =
    let at = c.loop-access in
    record {
      refs = λ d. c.reserve.ensures.refs d ∙ at.invariant.refs d;
      room = room_more c.as_slice-access-items.result.now at.access-index c.access-item.result at.index c.reserve.new.self c.loop-access-test.true at.invariant.room c.reserve.ensures.spare
          (subst (λ (x : Access). 0 < spare_at x.cell c.reserve.new.self) c.access-item.is c.in_ok-reserve.ensures.ok);
    }

pub returns-in_err-reserve-clause-refs : goal.returns-in_err-reserve-clause-refs
returns-in_err-reserve-clause-refs c d = c.reserve.ensures.refs d ∙ c.loop-access.invariant.refs d
