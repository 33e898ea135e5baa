use Rattle.std.proofs.Common.{◌≡◌, map}
use Rattle.roc_program.specs.Parts as view
use Rattle.roc_witness.specs.Inner.Columns.{touches, marks}
use Rattle.roc_witness.proofs.columns.touched.Given as goal

abbrev pub invariant-loop-number : goal.invariant-loop-number
invariant-loop-number l = l.touched.items ≡ marks touches (map view.statement l.body) l.number
