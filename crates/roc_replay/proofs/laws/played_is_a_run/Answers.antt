use Rattle.roc_replay.proofs.Playing.{played_run}
use Rattle.roc_replay.proofs.laws.played_is_a_run.Goals as goal

pub returns : goal.returns
returns c = played_run
