use Rattle.std.proofs.Common.{sym, ◌∙◌}
use Rattle.roc_server_reads.proofs.Holding.{starts_holds}
use Rattle.roc_server_reads.proofs.held_up.starting_holder.Goals as goal

pub returns-then-holds_up-clause-holder : goal.returns-then-holds_up-clause-holder
returns-then-holds_up-clause-holder g c =
    starts_holds c.args.behind.now c.args.uses.now c.look_at_start-group.result.now c.loop-at.at c.look_at_start-group.ensures.group (sym c.holds_up.ensures ∙ c.if-holds_up.true)
