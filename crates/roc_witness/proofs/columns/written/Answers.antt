use Rattle.roc_witness.specs.Inner.Columns.{writes}
use Rattle.roc_witness.proofs.Gathered.{mark_pushed}
use Rattle.roc_witness.proofs.columns.written.Goals as goal

pub loop-number-preserved : goal.loop-number-preserved
loop-number-preserved c = mark_pushed writes c.args.body.now c.loop-number.written.items c.push.new.self.items c.is_written.result c.loop-number.number c.in_ok-push.ensures.items c.loop-number.invariant c.is_written.ensures
