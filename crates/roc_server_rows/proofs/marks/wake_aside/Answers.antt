use Rattle.std.proofs.Common.{inl, ℕ, Option, sym, subst}
use Rattle.roc_server_rows.specs.Except.{rows_but}
use Rattle.roc_server_rows.specs.Marks.{AreMarked}
use Rattle.roc_server_rows.proofs.ExceptedMarks.{aside_none, aside_of}
use Rattle.roc_server_rows.proofs.OpenRows.{newly_woken}
use Rattle.roc_server_rows.proofs.marks.wake_aside.Goals as goal

pub returns-in-Some-clause-marked : goal.returns-in-Some-clause-marked
returns-in-Some-clause-marked c =
    subst (λ (except : Option ℕ). AreMarked (rows_but except c.args.rows.now) c.wake_for.new.marks) (sym c.in-Some.is)
    (aside_of c.args.rows.now c.args.marks.now c.wake_for.new.marks c.in-Some.at c.requires.marked c.wake_for.ensures)

pub returns-in-None-clause-marked : goal.returns-in-None-clause-marked
returns-in-None-clause-marked c =
    subst (λ (except : Option ℕ). AreMarked (rows_but except c.args.rows.now) c.args.marks.now) (sym c.in-None.is) (aside_none c.args.rows.now c.args.marks.now c.requires.marked)

pub returns-in-Some-clause-waiting : goal.returns-in-Some-clause-waiting
returns-in-Some-clause-waiting c = newly_woken c.args.rows.now c.in-Some.at c.args.marks.now c.wake_for.new.marks c.wake_for.ensures

pub returns-in-None-clause-waiting : goal.returns-in-None-clause-waiting
returns-in-None-clause-waiting c = λ n p. inl p
