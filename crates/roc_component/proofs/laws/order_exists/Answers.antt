use Rattle.roc_component.proofs.Exists.{order_of}
use Rattle.roc_component.proofs.laws.order_exists.Goals as goal

pub returns : goal.returns
returns c = order_of
