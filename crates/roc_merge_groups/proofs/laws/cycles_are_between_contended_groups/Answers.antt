use Rattle.roc_merge_groups.proofs.Accepting.{no_cycle_exactly}
use Rattle.roc_merge_groups.proofs.laws.cycles_are_between_contended_groups.Goals as goal

pub returns : goal.returns
returns c = no_cycle_exactly
