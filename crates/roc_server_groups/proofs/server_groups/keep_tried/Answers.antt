use Rattle.std.proofs.Common.{sym, subst}
use Rattle.roc_server_groups.specs.Indexed.{IsIndexOf}
use Rattle.roc_server_groups.proofs.Tried.{index_released}
use Rattle.roc_server_groups.proofs.server_groups.keep_tried.Goals as goal

pub returns-clause-index : goal.returns-clause-index
returns-clause-index c before after h d undecided =
    subst (IsIndexOf c.take_out.new.index after) (sym c.forget_over.ensures)
    (index_released c.enter_starting.new.index c.take_out.new.index before c.args.newly.now c.args.over.now after c.enter_starting.new.started.groups
    (c.enter_starting.ensures.index before h undecided) c.take_out.ensures d)
