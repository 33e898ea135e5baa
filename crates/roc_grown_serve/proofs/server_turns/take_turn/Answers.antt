use Rattle.roc_grown_serve.proofs.Turning.{gave_out, turned_back}
use Rattle.roc_grown_serve.proofs.server_turns.take_turn.Goals as goal

pub returns-in-Ok-clause-takes : goal.returns-in-Ok-clause-takes
returns-in-Ok-clause-takes g c = gave_out _ _ _ _ _ _ c.in-Ok.output c.in-Ok.ensures.takes _ c.give_out.ensures.gives

pub returns-in-Err-clause-takes : goal.returns-in-Err-clause-takes
returns-in-Err-clause-takes g c = turned_back _ _ _ _ _ c.in-Err.end c.in-Err.ensures.takes
