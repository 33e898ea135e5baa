use Rattle.roc_merge_groups.proofs.Accepting.{merged_accepted}
use Rattle.roc_merge_groups.proofs.laws.merged_groups_are_accepted.Goals as goal

pub returns : goal.returns
returns c = merged_accepted
