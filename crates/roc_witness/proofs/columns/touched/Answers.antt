use Rattle.roc_witness.specs.Inner.Columns.{touches}
use Rattle.roc_witness.proofs.Gathered.{mark_pushed}
use Rattle.roc_witness.proofs.columns.touched.Goals as goal

pub loop-number-preserved : goal.loop-number-preserved
loop-number-preserved c = mark_pushed touches c.args.body.now c.loop-number.touched.items c.push.new.self.items c.is_touched.result c.loop-number.number c.in_ok-push.ensures.items c.loop-number.invariant c.is_touched.ensures
