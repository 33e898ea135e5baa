use Rattle.std.proofs.Common.{ℕ, ◌<◌}
use Rattle.roc_conflict.specs.Classes.{is_immediate}
use Rattle.roc_merge_groups.specs.Groups.{groups_in}
use Rattle.roc_merge_groups.specs.Accepted.{IsAcceptedIn}
use Rattle.roc_merge_accept.proofs.acceptance.are_accepted_in_each.Given as goal

abbrev pub invariant-loop-proc : goal.invariant-loop-proc
invariant-loop-proc l = (proc : ℕ) → proc < l.proc → IsAcceptedIn l.workload (is_immediate l.classes) proc (groups_in l.groups proc)
