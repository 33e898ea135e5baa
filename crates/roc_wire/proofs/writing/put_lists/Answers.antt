use Rattle.std.proofs.Common.{arith, None}
use Rattle.roc_wire.proofs.Bounds.{all_short}
use Rattle.roc_wire.proofs.writing.put_lists.Goals as goal

pub put_facts-requires-clause-edges : goal.put_facts-requires-clause-edges
put_facts-requires-clause-edges c = rw c.as_slice-2.ensures.lists (all_short (None, 1000) c.args.facts.now (omega arith) c.requires.facts.1)
