use Rattle.std.proofs.Common.{ap, sym, ◌∙◌}
use Rattle.std.specs.Option.{option_copied}
use Rattle.roc_coord.specs.Step.{unread}
use Rattle.roc_coord.proofs.pending.unread.Goals as goal

pub returns-in-Some : goal.returns-in-Some
returns-in-Some c = sym (ap unread (sym c.find.ensures ∙ ap option_copied c.in-Some.is))

pub returns-in-None : goal.returns-in-None
returns-in-None c = sym (ap unread (sym c.find.ensures ∙ ap option_copied c.in-None.is))
