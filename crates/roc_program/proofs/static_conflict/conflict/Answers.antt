use Rattle.std.proofs.Common.{sym, ◌∙◌}
use Rattle.roc_program.proofs.Collisions.{between}
use Rattle.roc_program.proofs.Conflicts.{in_conflict_exposed}
use Rattle.roc_program.proofs.static_conflict.conflict.Goals as goal

pub returns : goal.returns
returns c =
    between _ _ _ _ _ c.exposed.ensures c.exposed-2.ensures c.collide_somewhere.ensures ∙ sym (in_conflict_exposed c.args.workload.now c.args.one c.args.other)
