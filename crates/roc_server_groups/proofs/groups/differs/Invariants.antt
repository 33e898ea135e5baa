use Rattle.std.proofs.Common.{◌≡◌, ◌==◌, ◌&&◌, not, false}
use Rattle.std.specs.List.{list_any}
use Rattle.roc_base.specs.Equality.{is_nums}
use Rattle.roc_step.specs.declared.started.StartedGroup.{StartedGroup}
use Rattle.roc_server_groups.proofs.KeyedGroups.{passes_up_to}
use Rattle.roc_server_groups.proofs.groups.differs.Given as goal

abbrev pub invariant-loop-number : goal.invariant-loop-number
invariant-loop-number l = list_any (passes_up_to l.id (λ (e : StartedGroup). not (e.proc == l.proc && is_nums e.args l.args)) l.number) l.started.groups ≡ false
