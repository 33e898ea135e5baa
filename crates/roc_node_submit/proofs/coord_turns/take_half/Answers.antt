use Rattle.roc_node_submit.proofs.Coords.{half_takes}
use Rattle.roc_node_submit.proofs.coord_turns.take_half.Goals as goal

pub returns-in-Ok-clause-takes : goal.returns-in-Ok-clause-takes
returns-in-Ok-clause-takes g c = half_takes c.put_out.result _ _ _ _ c.in-Ok.output _ _ _ c.in-Ok.ensures.takes (c.put_out.ensures.puts c.args.setting.logs)
