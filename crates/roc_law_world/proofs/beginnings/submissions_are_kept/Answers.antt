use Rattle.roc_law_world.proofs.AnsweringRuns.{told_in_runs}
use Rattle.roc_law_world.proofs.UsedSequences.{run_used}
use Rattle.roc_law_world.proofs.WovenOrder.{is_view, tells_them}
use Rattle.roc_law_world.proofs.beginnings.submissions_are_kept.Goals as goal

pub returns-clause-late : goal.returns-clause-late
returns-clause-late c plan b coords steps w begins run =
    (run_used plan b begins coords (is_view plan b coords steps w run) steps w run (tells_them plan b coords steps w run)).late

pub returns-clause-used : goal.returns-clause-used
returns-clause-used c plan b coords steps w begins run coord seq s there late below =
    (run_used plan b begins coords (is_view plan b coords steps w run) steps w run (tells_them plan b coords steps w run)).submitted coord s there seq late below

pub returns-clause-submitted : goal.returns-clause-submitted
returns-clause-submitted c plan b coords steps w run =
    (told_in_runs plan b coords (is_view plan b coords steps w run) steps w run (tells_them plan b coords steps w run)).kept

pub returns-clause-gone : goal.returns-clause-gone
returns-clause-gone c plan b coords steps w run t reply answered n s there has =
    ((told_in_runs plan b coords (is_view plan b coords steps w run) steps w run (tells_them plan b coords steps w run)).unanswered n s there t has).2 reply answered
