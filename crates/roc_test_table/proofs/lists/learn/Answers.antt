use Rattle.roc_base.proofs.Ids.{none_rise}
use Rattle.roc_test_table.proofs.lists.learn.Goals as goal

pub learn-done-requires-clause-rising : goal.learn-done-requires-clause-rising
learn-done-requires-clause-rising g c = none_rise
