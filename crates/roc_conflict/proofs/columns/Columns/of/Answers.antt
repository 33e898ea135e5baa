use Rattle.std.proofs.Common.{ap, ◌∙◌, ◌||◌}
use Rattle.roc_program.specs.Conflict.{are_in_conflict}
use Rattle.roc_conflict.proofs.Mirrored.{conflict_mirrored}
use Rattle.roc_conflict.proofs.columns.Columns.of.Goals as goal

pub returns : goal.returns
returns c = λ other.
    c.add.ensures other ∙ ap (λ b. b || are_in_conflict c.args.workload.now other c.args.id) (c.none-own.ensures c.args.workload.now other) ∙ conflict_mirrored c.args.workload.now other c.args.id
