use Rattle.roc_merge_groups.proofs.Accepting.{some_group, needed_immediate}
use Rattle.roc_merge_groups.proofs.laws.accepted_groups_need_immediate_ones.Goals as goal

pub returns-clause-some : goal.returns-clause-some
returns-clause-some c = some_group

pub returns-clause-needed : goal.returns-clause-needed
returns-clause-needed c = needed_immediate
