use Rattle.roc_law_world.proofs.AnsweringRuns.{told_in_runs}
use Rattle.roc_law_world.proofs.WovenOrder.{is_view, tells_them}
use Rattle.roc_law_world.proofs.beginnings.ids_are_told_once.Goals as goal

pub returns : goal.returns
returns c plan b coords steps w run =
    (told_in_runs plan b coords (is_view plan b coords steps w run) steps w run (tells_them plan b coords steps w run)).once
