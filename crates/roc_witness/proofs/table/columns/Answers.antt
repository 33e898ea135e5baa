use Rattle.std.proofs.Common.{ap, ◌∙◌, ◌∷◌, [], ◌++◌, arith}
use Rattle.roc_program.proofs.Ranges.{map_pushed}
use Rattle.roc_witness.specs.declared.columns.Columns.{Columns}
use Rattle.roc_witness.specs.Inner.Columns.{gathered_columns}
use Rattle.roc_witness.specs.Inner.Table.{numbered_piece}
use Rattle.roc_witness.proofs.Gathered.{how_many, are_columns}
use Rattle.roc_witness.proofs.table.columns.Goals as goal

pub loop-number-preserved : goal.loop-number-preserved
loop-number-preserved c =
    map_pushed [] c.loop-number.columns.items c.push.new.self.items (λ n. gathered_columns c.args.workload.now (numbered_piece n)) c.loop-number.number
    (c.in_ok-push.ensures.items ∙ ap (λ (b : Columns). c.loop-number.columns.items ++ b ∷ []) (c.in_ok-of.ensures ∙ ap (gathered_columns c.args.workload.now) c.piece_at.ensures)) c.loop-number.invariant

pub returns-clause-columns : goal.returns-clause-columns
returns-clause-columns c = are_columns c.args.workload.now c.loop-number.columns.items c.loop-number.number c.loop-number.invariant

pub returns-clause-count : goal.returns-clause-count
returns-clause-count c = omega (arith, how_many c.args.workload.now c.loop-number.columns.items c.loop-number.number c.loop-number.invariant, c.numbers-number-end.ensures.value)
