use Rattle.std.proofs.Common.{sym, ◌∙◌}
use Rattle.roc_conflict.specs.Immediate.{in_conflict}
use Rattle.roc_conflict.proofs.Mirrored.{conflict_mirrored}
use Rattle.roc_conflict.proofs.laws.conflicts_join_equals.Goals as goal

pub returns : goal.returns
returns c = λ program one other h. (λ i. in_conflict i h, λ i. in_conflict i (sym (conflict_mirrored program one other) ∙ h))
