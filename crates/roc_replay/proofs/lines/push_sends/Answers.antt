use Rattle.roc_replay.proofs.LinesLeft.{line_more, sends_left}
use Rattle.roc_replay.proofs.SmallLines.{one_small, all_sends_small}
use Rattle.roc_replay.proofs.lines.push_sends.Goals as goal

pub loop-index-preserved : goal.loop-index-preserved
loop-index-preserved c =
    let left = sends_left c.args.first c.args.sent.now c.loop-index.index c.index-sent-index.result c.loop-index-test.true c.index-sent-index.is in (
      line_more c.args.workload.now c.loop-index.text.items c.append.new.into.items _ _ _ _ left c.in_ok-append.ensures.ok c.loop-index.invariant.0,
      one_small _ _ _ _ left c.append.ensures.small c.loop-index.invariant.1,
    )

pub returns-clause-small : goal.returns-clause-small
returns-clause-small c = all_sends_small c.args.first c.args.sent.now c.loop-index.index c.loop-index-test.false c.loop-index.invariant.1
