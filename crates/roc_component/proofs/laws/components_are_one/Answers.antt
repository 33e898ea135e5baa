use Rattle.roc_component.proofs.OneTaken.{one_taken}
use Rattle.roc_component.proofs.RisingParts.{one_rising}
use Rattle.roc_component.proofs.laws.components_are_one.Goals as goal

pub returns : goal.returns
returns c = record { taken = one_taken; rising = one_rising }
