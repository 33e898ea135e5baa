use Rattle.std.proofs.Common.{◌∙◌, ap, Some}
use Rattle.roc_rows.proofs.Undone.{undone-none}
use Rattle.roc_rows.proofs.rows.Rows.savepoint.Goals as goal

pub returns-clause-saved : goal.returns-clause-saved
returns-clause-saved c = ap Some (undone-none _ _ c.new.ensures.items ∙ ap (λ h. h.store) c.self.view_is)
