use Rattle.std.proofs.Common.{ap, sym, ◌∙◌}
use Rattle.std.specs.Option.{option_copied}
use Rattle.roc_coord.specs.Step.{unasked}
use Rattle.roc_coord.proofs.views.unasked.Goals as goal

pub returns-in-Some : goal.returns-in-Some
returns-in-Some c = sym (ap unasked (sym c.find.ensures ∙ ap option_copied c.in-Some.is))

pub returns-in-None : goal.returns-in-None
returns-in-None c = sym (ap unasked (sym c.find.ensures ∙ ap option_copied c.in-None.is))
