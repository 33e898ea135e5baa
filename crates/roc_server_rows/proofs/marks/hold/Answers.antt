use Rattle.std.proofs.Common.{◌≡◌, ◌<◌, ◌∙◌, refl, sym, arith}
use Rattle.roc_server_rows.specs.Except.{rows_but}
use Rattle.roc_server_rows.specs.Marks.{mark_in}
use Rattle.roc_server_rows.proofs.Excepted.{told_but}
use Rattle.roc_server_rows.proofs.Waits.{holds_none, holds_now}
use Rattle.roc_server_rows.proofs.marks.hold.Goals as goal

pub returns-then-marks-at-gt0 : goal.returns-then-marks-at-gt0
returns-then-marks-at-gt0 c =
    holds_none (rows_but c.args.except c.args.rows.now) c.args.marks.now c.args.at c.requires.marked (λ z. absurd (omega (arith, z, c.if-marks-at-gt0.true)))

pub held_by-waits-requires-clause-told : goal.held_by-waits-requires-clause-told
held_by-waits-requires-clause-told c = sym (told_but c.args.except c.args.rows.now c.args.at) ∙ c.requires.todo.told

pub returns-then-waits-eq0 : goal.returns-then-waits-eq0
returns-then-waits-eq0 c =
    holds_none (rows_but c.args.except c.args.rows.now) c.args.marks.now c.args.at c.requires.marked (λ z. c.held_by-waits.ensures.free c.if-waits-eq0.true)

pub returns : goal.returns
returns c =
    let marks = c.args.marks.now in
    let some : 0 < c.held_by-waits.result.birth = omega (arith, c.if-waits-eq0.false) in
    let none : (mark_in marks c.args.at).waits.birth ≡ 0 = omega (arith, c.if-marks-at-gt0.false) in
    holds_now (rows_but c.args.except c.args.rows.now) marks c.args.at (record { decided = (mark_in marks c.args.at).decided; waits = c.held_by-waits.result })
    c.requires.marked c.requires.todo refl (c.held_by-waits.ensures.held some) none some
