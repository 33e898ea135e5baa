use Rattle.roc_law_orders.proofs.Counting.{lawful}
use Rattle.roc_law_orders.proofs.laws.counter_is_lawful.Goals as goal

pub returns : goal.returns
returns c = lawful c.reads_after_writes.ensures.same c.reads_after_writes.ensures.other
