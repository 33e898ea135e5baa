use Rattle.std.proofs.Common.{◌∙◌, ℕ, List, Result, Ok, Err, sym, subst}
use Rattle.std.specs.Prelude.{IfOk, Vec}
use Rattle.std.specs.declared.alloc.Global.{Global}
use Rattle.roc_base.specs.declared.memory.NoMemory.{NoMemory}
use Rattle.roc_base.specs.declared.id.TxnId.{TxnId}
use Rattle.roc_server_rows.specs.Rows.{IsRowTable}
use Rattle.roc_server_rows.specs.Except.{rows_but}
use Rattle.roc_server_rows.specs.Inner.Marks.{AreInQuestion, FindsNew}
use Rattle.roc_server_rows.specs.Marks.{AreNewRowsBut}
use Rattle.roc_server_rows.proofs.ExceptedMarks.{marked_back}
use Rattle.roc_server_rows.proofs.InQuestion.{are_in_question, found_new}
use Rattle.roc_server_rows.proofs.OpenRows.{newly_but, open_held}
use Rattle.roc_server_rows.proofs.marks.newly.Goals as goal

pub decided_among-requires-clause-todo : goal.decided_among-requires-clause-todo
decided_among-requires-clause-todo c =
    subst (AreInQuestion (rows_but c.args.except c.args.rows.now) c.wake_aside.new.marks) (sym c.deref.ensures.value)
    (are_in_question c.args.except c.args.rows.now c.args.marks.now c.wake_aside.new.marks c.args.undecided.now c.in-Ok.todo.items c.requires.undecided c.wake_aside.ensures.same
    c.wake_aside.ensures.each c.in-Ok.ensures)

pub returns-in-Ok-clause-marked : goal.returns-in-Ok-clause-marked
returns-in-Ok-clause-marked c =
    marked_back c.args.except c.args.rows.now c.args.marks.now c.decided_among.new.marks c.requires.marked (λ n. c.decided_among.ensures.same n ∙ c.wake_aside.ensures.same n)
    c.decided_among.ensures.marked

pub returns-in-Ok-clause-undecided : goal.returns-in-Ok-clause-undecided
returns-in-Ok-clause-undecided c =
    let rows = c.args.rows.now in
    let aside = open_held rows c.args.marks.now c.wake_aside.new.marks c.args.undecided.now c.requires.undecided c.wake_aside.ensures.each c.wake_aside.ensures.same c.wake_aside.ensures.waiting in
    open_held rows c.wake_aside.new.marks c.decided_among.new.marks c.args.undecided.now aside c.decided_among.ensures.each c.decided_among.ensures.same
    (newly_but c.args.except rows c.wake_aside.new.marks c.decided_among.new.marks c.decided_among.ensures.waiting)

pub returns-in-Err-clause-undecided : goal.returns-in-Err-clause-undecided
returns-in-Err-clause-undecided c =
    open_held c.args.rows.now c.args.marks.now c.wake_aside.new.marks c.args.undecided.now c.requires.undecided c.wake_aside.ensures.each c.wake_aside.ensures.same c.wake_aside.ensures.waiting

pub returns-in-Ok-clause-same : goal.returns-in-Ok-clause-same
returns-in-Ok-clause-same c n = c.decided_among.ensures.same n ∙ c.wake_aside.ensures.same n

if_new : (P Q : List ℕ → Type 0) → ((ns : List ℕ) → P ns → Q ns) → (r : Result (Vec ℕ Global) NoMemory) → IfOk r (λ v. P v.items) → IfOk r (λ v. Q v.items)
if_new P Q f (Ok v) p = f v.items p
if_new P Q f (Err e) p = tt

pub returns-in-Ok-clause-new : goal.returns-in-Ok-clause-new
returns-in-Ok-clause-new c =
    let rows = c.args.rows.now in
    if_new (FindsNew (rows_but c.args.except rows) c.wake_aside.new.marks)
    (λ ns. (numbers : List (TxnId × ℕ)) (stamp : ℕ) → IsRowTable numbers rows stamp → AreNewRowsBut c.args.except rows c.args.marks.now ns)
    (λ ns f. found_new c.args.except rows c.args.marks.now c.wake_aside.new.marks ns c.wake_aside.ensures.same c.requires.live f) c.decided_among.result c.decided_among.ensures.new

pub returns-in-Err-clause-marked : goal.returns-in-Err-clause-marked
returns-in-Err-clause-marked c = marked_back c.args.except c.args.rows.now c.args.marks.now c.wake_aside.new.marks c.requires.marked c.wake_aside.ensures.same c.wake_aside.ensures.marked
