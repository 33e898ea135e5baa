use Rattle.std.proofs.Common.{sym, ◌∙◌}
use Rattle.roc_server_reads.proofs.Holding.{hint_is}
use Rattle.roc_server_reads.proofs.held_up.holder_among.Goals as goal

pub returns-then-is_hint_right-clause-holder : goal.returns-then-is_hint_right-clause-holder
returns-then-is_hint_right-clause-holder g c = hint_is c.args.behind.now c.args.uses.now c.args.hint (sym c.is_hint_right.ensures.is ∙ c.if-is_hint_right.true)
