use Rattle.std.proofs.Common.{◌≤◌, ◌+◌, drop, take}
use Rattle.roc_server_reads.specs.Behind.{AreHolders}
use Rattle.roc_server_reads.specs.Looks.{looks_for_all}
use Rattle.roc_server_reads.proofs.free_reads.holders_of.Given as goal

-- those of the reads so far, and what is looked at for the rest is left
abbrev pub invariant-loop-at : goal.invariant-loop-at
invariant-loop-at g l = record {
  holders : AreHolders l.plan l.behind (take l.at l.reads) l.holders.items;
  steps : l.steps + looks_for_all l.plan l.behind (drop l.at l.reads) (drop l.at l.hints) ≤ l.initial.steps + looks_for_all l.plan l.behind l.reads l.hints;
}
