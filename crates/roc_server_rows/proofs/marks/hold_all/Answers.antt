use Rattle.roc_server_rows.specs.Except.{rows_but}
use Rattle.roc_server_rows.proofs.Waits.{all_open_stay, turning_more}
use Rattle.roc_server_rows.proofs.marks.hold_all.Goals as goal

pub hold_some-changed-requires-clause-todo : goal.hold_some-changed-requires-clause-todo
hold_some-changed-requires-clause-todo c =
    all_open_stay (rows_but c.args.except c.args.rows.now) c.args.marks.now c.turns.marks c.args.todo.now c.turns.invariant.same c.turns.invariant.each c.requires.todo

pub turns-preserved : goal.turns-preserved
turns-preserved c =
    turning_more (rows_but c.args.except c.args.rows.now) c.args.marks.now c.turns.marks c.hold_some-changed.new.marks c.args.todo.now c.turns.changed c.hold_some-changed.result
    c.turns.invariant c.hold_some-changed.ensures
