use Rattle.std.proofs.Common.{◌∙◌}
use Rattle.roc_law_nodes.proofs.CoordFolds.{coord_run_folds, coord_run_brings}
use Rattle.roc_law_nodes.proofs.Spelled.{turns_of}
use Rattle.roc_law_nodes.proofs.laws.coord_run_is_fold.Goals as goal

pub returns-clause-brought : goal.returns-clause-brought
returns-clause-brought c S number requests events n run = coord_run_folds S number run

pub returns-clause-owns : goal.returns-clause-owns
returns-clause-owns c S number requests events n run = coord_run_brings S number run

pub returns-clause-spelled : goal.returns-clause-spelled
returns-clause-spelled c S number requests events n run owns are =
    (coord_run_brings S number run).turns ∙ turns_of c.spelled_is_read.ensures S.header.tag are
