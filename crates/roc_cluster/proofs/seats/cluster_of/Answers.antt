use Rattle.std.proofs.Common.{sym}
use Rattle.roc_cluster.proofs.Seating.{seats_more, gap_told}
use Rattle.roc_cluster.proofs.seats.cluster_of.Goals as goal

pub returns-in-None-clause-err : goal.returns-in-None-clause-err
returns-in-None-clause-err c tables are =
    let l = c.loop-number in
    gap_told c.args.shards c.args.entries.now tables l.addrs l.number c.loop-number-test.true l.invariant (sym c.in-None.ensures) are

pub loop-number-preserved : goal.loop-number-preserved
loop-number-preserved c =
    let l = c.loop-number in
    rw c.in_ok-push-in-Some.ensures.ok (seats_more l.number c.args.entries.now l.addrs c.in-Some.entry.now l.invariant (sym c.in-Some.ensures))
