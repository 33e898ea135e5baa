use Rattle.roc_grown.proofs.FewSends.{answers_few}
use Rattle.roc_grown.proofs.laws.answers_send_few.Goals as goal

pub returns : goal.returns
returns c plan s msg id reply e = answers_few plan s msg id reply e
