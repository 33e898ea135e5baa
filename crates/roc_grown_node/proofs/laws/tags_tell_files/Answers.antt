use Rattle.roc_grown_node.proofs.Judged.{sent_is_judged}
use Rattle.roc_grown_node.proofs.laws.tags_tell_files.Goals as goal

pub returns : goal.returns
returns c S T sender receiver msg bytes same apart here spells =
    sent_is_judged S T same apart sender receiver msg bytes here (c.spelled_is_read.ensures bytes _ msg spells)
