use Rattle.std.proofs.Common.{get_or}
use Rattle.std.proofs.lemmas.List.{get_or_default}
use Rattle.roc_sequence.proofs.Holds.{all_at}
use Rattle.roc_server_rows.specs.Except.{rows_but}
use Rattle.roc_server_rows.specs.Marks.{IsOpen}
use Rattle.roc_server_rows.proofs.Waits.{open_stays, some_next, some_none}
use Rattle.roc_server_rows.proofs.marks.hold_some.Goals as goal

pub loop-at-init : goal.loop-at-init
loop-at-init c = some_none (rows_but c.args.except c.args.rows.now) c.args.marks.now c.requires.marked

pub hold-held-requires-clause-todo : goal.hold-held-requires-clause-todo
hold-held-requires-clause-todo c =
    let rows = rows_but c.args.except c.args.rows.now in
    let ns = c.args.todo.now in
    let i = c.loop-at.at-index in
    open_stays rows c.args.marks.now c.loop-at.marks (get_or ns i 0) c.loop-at.invariant.same c.loop-at.invariant.each
    (all_at (IsOpen rows c.args.marks.now) ns i 0 c.requires.todo c.loop-at-test.true)

pub loop-at-preserved : goal.loop-at-preserved
loop-at-preserved c =
    let ns = c.args.todo.now in
    let i = c.loop-at.at-index in
    some_next (rows_but c.args.except c.args.rows.now) c.args.marks.now c.loop-at.marks c.hold-held.new.marks ns i (get_or ns i 0) c.hold-held.result c.loop-at.changed c.loop-at-test.true
    (get_or_default ns i 0 (get_or ns i 0) c.loop-at-test.true) c.hold-held.ensures c.loop-at.invariant
