use Rattle.std.proofs.Common.{take}
use Rattle.std.specs.Prelude.{IsSome}
use Rattle.std.specs.List.{AllByRecursion}
use Rattle.roc_server_reads.proofs.answering.are_all_held.Given as goal

-- those so far are
abbrev pub invariant-loop-holder : goal.invariant-loop-holder
invariant-loop-holder l = AllByRecursion IsSome (take l.holder-index l.holders)
