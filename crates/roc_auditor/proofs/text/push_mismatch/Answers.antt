use Rattle.std.proofs.Common.{append_assoc}
use Rattle.roc_auditor.proofs.text.push_mismatch.Goals as goal

pub returns : goal.returns
returns c = simp append_assoc c.write.ensures.bytes
