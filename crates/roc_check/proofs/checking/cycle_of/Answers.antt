use Rattle.roc_check.proofs.checking.cycle_of.Goals as goal

pub unreachable-requires : goal.unreachable-requires
unreachable-requires c = (rw c.in-Ok-None.field-0-is at c.in-Ok-None.ensures.none) c.requires.cycle.0 c.requires.cycle.1
