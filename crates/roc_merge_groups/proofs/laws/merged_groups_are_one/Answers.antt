use Rattle.roc_merge_groups.proofs.Unique.{merged_once}
use Rattle.roc_merge_groups.proofs.laws.merged_groups_are_one.Goals as goal

pub returns : goal.returns
returns c = merged_once
