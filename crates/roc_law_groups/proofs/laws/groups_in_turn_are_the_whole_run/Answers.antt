use Rattle.roc_law_groups.proofs.InTurn.{do_as_whole}
use Rattle.roc_law_groups.proofs.laws.groups_in_turn_are_the_whole_run.Goals as goal

pub returns : goal.returns
returns c plan proc args store order ok there turn = do_as_whole plan proc args store ok there order turn
