use Rattle.std.proofs.Common.{◌∙◌, sym}
use Rattle.roc_base.proofs.Ids.{is_listed-any}
use Rattle.roc_base.proofs.among.is_among.Goals as goal

pub returns : goal.returns
returns c = c.contains.ensures.value ∙ sym (is_listed-any c.args.ids.now c.args.id)
