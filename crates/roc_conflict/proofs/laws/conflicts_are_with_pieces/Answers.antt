use Rattle.roc_program.specs.Conflict.{are_in_conflict}
use Rattle.roc_program.specs.Pieces.{all_pieces}
use Rattle.roc_conflict.proofs.Members.{found_by_any}
use Rattle.roc_conflict.proofs.Present.{some_conflict}
use Rattle.roc_conflict.proofs.laws.conflicts_are_with_pieces.Goals as goal

pub returns : goal.returns
returns c = λ program id. (found_by_any (are_in_conflict program id) (all_pieces program), λ h. some_conflict program id h.0 h.1)
