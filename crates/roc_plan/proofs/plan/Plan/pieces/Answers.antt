use Rattle.std.proofs.Common.{length, ◌∙◌, sym, ap, arith}
use Rattle.roc_program.proofs.Rows.{row_length}
use Rattle.roc_plan.specs.Groups.{no_group, group_of, groups_of}
use Rattle.roc_plan.proofs.Rows.{row_element}
use Rattle.roc_plan.specs.Outlines.{group}
use Rattle.roc_plan.proofs.plan.Plan.pieces.Goals as goal

pub outline_at-requires : goal.outline_at-requires
outline_at-requires c =
    omega (arith, row_length (λ row. row.items) group c.self.inside.outlines.items c.args.proc, ap (λ p. length (groups_of p c.args.proc)) c.self.view_is)

pub returns : goal.returns
returns c =
    c.as_slice.ensures.value
    ∙ sym (ap (λ g. g.pieces) (row_element (λ row. row.items) group c.self.inside.outlines.items c.args.proc c.args.group c.outline_at.result.now no_group c.outline_at.ensures))
    ∙ ap (λ p. (group_of p c.args.proc c.args.group).pieces) c.self.view_is
