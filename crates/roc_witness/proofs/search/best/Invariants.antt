use Rattle.std.specs.Option.{option_map}
use Rattle.roc_witness.specs.Inner.Candidates.{IsBest, LeavesBelow}
use Rattle.roc_witness.proofs.search.best.Given as goal

abbrev pub invariant-loop-piece : goal.invariant-loop-piece
invariant-loop-piece l = IsBest (LeavesBelow l.vertices l.table l.p l.q l.piece) (option_map (λ c. c.items) l.best)
