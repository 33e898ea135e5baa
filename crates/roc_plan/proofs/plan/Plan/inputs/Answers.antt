use Rattle.std.proofs.Common.{length, ap, arith}
use Rattle.roc_program.proofs.Rows.{row_length}
use Rattle.roc_plan.specs.Groups.{groups_of}
use Rattle.roc_plan.specs.Outlines.{group}
use Rattle.roc_plan.proofs.plan.Plan.inputs.Goals as goal

pub outline_at-requires : goal.outline_at-requires
outline_at-requires c =
    omega (arith, row_length (λ row. row.items) group c.self.inside.outlines.items c.args.proc, ap (λ p. length (groups_of p c.args.proc)) c.self.view_is)
