use Rattle.std.proofs.Common.{List, map, sym, subst}
use Rattle.std.specs.List.{AllByRecursion}
use Rattle.roc_program.specs.Keys.{HasKey}
use Rattle.roc_program.specs.Parts as pure
use Rattle.roc_program.specs.declared.parts.Statement.{Statement}
use Rattle.roc_program.proofs.Rows.{all_read}
use Rattle.roc_whole.proofs.piece.run_piece.Goals as goal

pub run_statement-requires-clause-key : goal.run_statement-requires-clause-key
run_statement-requires-clause-key c =
    let P : List Statement → Type 0 = λ ss. AllByRecursion HasKey (map pure.statement ss) in
    all_read HasKey pure.statement c.deref-statement-items.result.now c.loop-statement.statement-index c.statement-item.result (subst P (sym c.deref-statement-items.ensures.value) c.requires.keys) c.loop-statement-test.true c.statement-item.is
