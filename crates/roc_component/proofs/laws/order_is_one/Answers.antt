use Rattle.roc_component.proofs.Alike.{one_by_edges, one_by_members}
use Rattle.roc_component.proofs.laws.order_is_one.Goals as goal

pub returns : goal.returns
returns c = record { edges = one_by_edges; members = one_by_members }
