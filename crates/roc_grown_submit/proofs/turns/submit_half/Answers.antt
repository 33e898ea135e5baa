use Rattle.roc_grown_submit.proofs.Turning.{half_submits}
use Rattle.roc_grown_submit.proofs.turns.submit_half.Goals as goal

pub returns-in-Ok-clause-submits : goal.returns-in-Ok-clause-submits
returns-in-Ok-clause-submits g c = half_submits c.put_out.result _ _ _ _ _ c.in-Ok.output _ _ c.in-Ok.ensures.submits c.put_out.ensures.puts
