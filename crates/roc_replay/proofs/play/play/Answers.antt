use Rattle.std.proofs.Common.{refl}
use Rattle.roc_replay.specs.Pieces.{none_played}
use Rattle.roc_replay.proofs.play.play.Goals as goal

pub returns-in_default-clause-pieces : goal.returns-in_default-clause-pieces
returns-in_default-clause-pieces g c schedule of = none_played _ refl refl
