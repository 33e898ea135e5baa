use Rattle.roc_law_nodes.proofs.Spelled.{have_turns}
use Rattle.roc_law_nodes.proofs.laws.own_events_have_turns.Goals as goal

pub returns : goal.returns
returns c = have_turns
