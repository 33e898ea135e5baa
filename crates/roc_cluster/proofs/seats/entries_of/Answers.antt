use Rattle.std.proofs.Common.{sym, ◌∙◌, arith}
use Rattle.roc_cluster.proofs.Reading.{fault_in_fields, fault_of_number, read_more}
use Rattle.roc_cluster.proofs.seats.entries_of.Goals as goal

pub returns-in-Err-clause-err : goal.returns-in-Err-clause-err
returns-in-Err-clause-err c =
    let l = c.loop-table in
    fault_in_fields c.args.shards c.args.tables.now l.table-index c.table-item.result (omega arith) c.table-item.is l.entries c.in-Err.fault l.invariant c.in-Err.ensures.err

pub returns-then-is_numbered-clause-err : goal.returns-then-is_numbered-clause-err
returns-then-is_numbered-clause-err c =
    let l = c.loop-table in
    let told = sym c.is_numbered.ensures ∙ c.if-is_numbered.true in
    fault_of_number c.args.shards c.args.tables.now l.table-index c.table-item.result (omega arith) c.table-item.is l.entries c.in-Ok.entry l.invariant c.in-Ok.ensures.ok (rw c.as_slice.ensures at told)

pub loop-table-preserved : goal.loop-table-preserved
loop-table-preserved c =
    let l = c.loop-table in
    let told = sym c.is_numbered.ensures ∙ c.if-is_numbered.false in
    let more = read_more c.args.shards c.args.tables.now l.table-index c.table-item.result (omega arith) c.table-item.is l.entries c.in-Ok.entry l.invariant c.in-Ok.ensures.ok (rw c.as_slice.ensures at told) in
    rw c.in_ok-push.ensures.ok more
