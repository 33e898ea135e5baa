use Rattle.roc_law_grown_nodes.proofs.GrownCauses.{spelled_is_caused}
use Rattle.roc_law_grown_nodes.proofs.laws.spelled_messages_are_caused.Goals as goal

pub returns : goal.returns
returns c N sent from to by switched msg packet apart spells was = spelled_is_caused N apart c.spelled_is_read.ensures sent from to by switched msg packet spells was
