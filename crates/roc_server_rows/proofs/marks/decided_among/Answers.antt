use Rattle.std.proofs.Common.{◌≡◌, ◌<◌, ℕ, List, Result, Ok, Err, length, sym, subst, arith}
use Rattle.std.specs.Prelude.{IfOk, Vec}
use Rattle.std.specs.declared.alloc.Global.{Global}
use Rattle.roc_sequence.proofs.Holds.{all_weaker}
use Rattle.roc_base.specs.declared.memory.NoMemory.{NoMemory}
use Rattle.roc_server_rows.specs.Except.{rows_but}
use Rattle.roc_server_rows.specs.Inner.Marks.{FindsNew}
use Rattle.roc_server_rows.specs.Marks.{IsOpen}
use Rattle.roc_server_rows.proofs.DecidedRows.{all_new}
use Rattle.roc_server_rows.proofs.marks.decided_among.Goals as goal

pub hold_all-requires-clause-todo : goal.hold_all-requires-clause-todo
hold_all-requires-clause-todo c = c.requires.todo.open_rows

pub free_among-requires : goal.free_among-requires
free_among-requires c =
    all_weaker (IsOpen (rows_but c.args.except c.args.rows.now) c.args.marks.now) (λ n. n < length c.hold_all.new.marks) (λ n o. omega (arith, o.within, c.hold_all.ensures.each)) c.args.todo.now
    c.requires.todo.open_rows

if_found : (P : List ℕ → Type 0) (ns : List ℕ) → P ns → (r : Result (Vec ℕ Global) NoMemory) → IfOk r (λ v. v.items ≡ ns) → IfOk r (λ v. P v.items)
if_found P ns p (Ok v) e = subst P (sym e) p
if_found P ns p (Err f) e = tt

pub returns-clause-new : goal.returns-clause-new
returns-clause-new c =
    let rows = rows_but c.args.except c.args.rows.now in
    if_found (FindsNew rows c.args.marks.now) _
    (λ numbers stamp t. all_new numbers rows stamp t c.args.marks.now c.hold_all.new.marks c.args.todo.now c.hold_all.ensures c.requires.todo) c.free_among.result c.free_among.ensures
