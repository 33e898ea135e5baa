use Rattle.roc_grown_submit.proofs.Turning.{half_takes}
use Rattle.roc_grown_submit.proofs.turns.take_half.Goals as goal

pub returns-in-Ok-clause-takes : goal.returns-in-Ok-clause-takes
returns-in-Ok-clause-takes g c = half_takes c.put_out.result _ _ _ c.in-Ok.output _ _ _ c.in-Ok.ensures.takes c.put_out.ensures.puts
