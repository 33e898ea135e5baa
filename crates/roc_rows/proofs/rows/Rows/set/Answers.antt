use Rattle.std.proofs.Common.{◌∙◌, ap, sym, Some}
use Rattle.roc_rows.specs.Inner.Kept.{saved_by}
use Rattle.roc_rows.proofs.rows.Rows.set.Goals as goal

pub returns-in-Some-clause-saved : goal.returns-in-Some-clause-saved
returns-in-Some-clause-saved c =
    ap Some c.set_noted.ensures.undone ∙ ap (saved_by c.self.inside.numbers.store) (sym c.in-Some.is) ∙ ap (λ h. h.saved) c.self.view_is
